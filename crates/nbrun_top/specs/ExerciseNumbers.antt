-- The numbers of a saved notebook.
use Rattle.std.specs.Prelude.{◌≢◌, ℕ, ◌+◌, ◌-◌, ◌^◌, min, List, [], ◌∷◌, length, Option, Some, None}
use Rattle.nb_load.specs.declared.load_fault.LoadFault.{LoadFault}
use Rattle.nb_load.specs.declared.load_fault.LoadFault.TheVariants as fault
use Rattle.nb_load.specs.Loaded.{Accepts, Refuses}
use Rattle.nb_model.specs.declared.cell.Cell.{Cell}
use Rattle.nb_model.specs.declared.notebook.Notebook.{Notebook}
use Rattle.nbrun_top.specs.Exercise.{ask}

-- how many outputs these cells have besides so many, up to the last value of a `u64`
abbrev pub outputs_from : ℕ → List Cell → ℕ
outputs_from total [] = total
outputs_from total (c ∷ cells) = outputs_from (min (total + length c.outputs) (2 ^ 64 - 1)) cells

-- how many cells a notebook has, and how many outputs
abbrev pub numbers : Notebook → ℕ × ℕ
numbers n = (length n.cells, outputs_from 0 n.cells)

-- the numbers of the notebook in the file, and 0 and 0 where there is no file or none with a notebook
pub data AreNumbers : Option (List ℕ) → ℕ → ℕ → Type 0 where
  counted : (bytes : List ℕ) (n : Notebook) → Accepts ask bytes n → AreNumbers (Some bytes) (numbers n).0 (numbers n).1
  absent : AreNumbers None 0 0
  refused : (bytes : List ℕ) (f : LoadFault) → f ≢ fault.NoMemory → Refuses ask bytes f → AreNumbers (Some bytes) 0 0
