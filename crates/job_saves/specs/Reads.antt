-- What a job has read, and what it found in it, by the entries of a journal, its newest entry first.
use Rattle.std.specs.Prelude.{◌≡◌, ◌⊎◌, ℕ, List, ◌∷◌, ◌++◌, if◌then◌else◌}
use Rattle.nb_model.specs.declared.notebook.Notebook.{Notebook}
use Rattle.nb_model.specs.Prepared.{prepared_notebook}
use Rattle.nb_load.specs.Loaded.{Accepts}
use Rattle.words.specs.declared.ask.Ask.{Ask}
use Rattle.kspec.specs.KernelJson as kernel_json
use Rattle.world.specs.declared.entry.Entry.{Entry}
use Rattle.world.specs.declared.entry.Entry.TheVariants.{Read}
use Rattle.world.specs.declared.read_file.ReadFile.TheVariants.{Whole}
use Rattle.kernel_start.specs.declared.kernel.Kernel.{Kernel}
use Rattle.kernel_start.specs.Finding.{HasGoodName, spec_path, spec_folder}

-- the file was read whole, as these bytes, where so many were asked for at most
pub record WasRead (path : List ℕ) (most : ℕ) (bytes : List ℕ) (past : List Entry) : Type 0 where
  pub later : List Entry
  pub before : List Entry
  pub is : past ≡ later ++ Read path most (Whole bytes) ∷ before

-- the notebook that a job's input gives with its parameters, by the bytes that were read of it
pub record IsInputOf (a : Ask) (past : List Entry) (n : Notebook) : Type 0 where
  pub bytes : List ℕ
  pub read : WasRead a.input 33554432 bytes past
  pub accepted : Accepts a bytes n

-- the notebook of a job whose cells are executed: it was read so and prepared
pub record IsNotebookOf (a : Ask) (past : List Entry) (n : Notebook) : Type 0 where
  pub given : Notebook
  pub input : IsInputOf a past given
  pub is : n ≡ prepared_notebook given

-- the notebook that is saved first: as it was read with its parameters, and prepared for its cells' execution unless nothing
-- is executed
abbrev pub first_of : Ask → Notebook → Notebook
first_of a n = if a.prepare then n else prepared_notebook n

-- the notebook that a job saves first, by the bytes that were read of its input
pub record IsFirstOf (a : Ask) (past : List Entry) (n : Notebook) : Type 0 where
  pub given : Notebook
  pub input : IsInputOf a past given
  pub is : n ≡ first_of a given

-- the file of the spec that the job's words or its notebook name
pub record IsSpecOf (a : Ask) (past : List Entry) (path : List ℕ) : Type 0 where
  pub notebook : Notebook
  pub own : IsNotebookOf a past notebook
  pub named : HasGoodName a notebook
  pub is : path ≡ spec_path a notebook

-- a file that a job reads: at most 32 MiB of its input, or 1 MiB of its kernel's spec
abbrev pub IsRead : Ask → List Entry → List ℕ → ℕ → Type 0
IsRead a past path most = ((path ≡ a.input) × (most ≡ 33554432)) ⊎ (IsSpecOf a past path × (most ≡ 1048576))

-- the kernel of a job, by the bytes that were read of its spec
pub record IsKernelOf (a : Ask) (past : List Entry) (kernel : Kernel) : Type 0 where
  pub notebook : Notebook
  pub own : IsNotebookOf a past notebook
  pub named : HasGoodName a notebook
  pub bytes : List ℕ
  pub read : WasRead (spec_path a notebook) 1048576 bytes past
  pub says : kernel_json.Says a.interrupt bytes kernel.spec
  pub folder : kernel.folder ≡ spec_folder a notebook
