-- What a crash may leave at the output of a job, at each moment of a run.
use Rattle.std.specs.Prelude.{◌≡◌, ◌⊎◌, ℕ, ◌≤◌, List, [], ◌++◌, length}
use Rattle.nb_model.specs.declared.notebook.Notebook.{Notebook}
use Rattle.words.specs.declared.ask.Ask.{Ask}
use Rattle.world.specs.declared.entry.Entry.{Entry}
use Rattle.world.specs.declared.left.Left.{Left}
use Rattle.world.specs.declared.left.Left.TheVariants as left
use Rattle.world.specs.declared.read_file.ReadFile.TheVariants as found
use Rattle.world.specs.Disk.{leaves, Among}
use Rattle.world.specs.Moments.{upto}
use Rattle.nb_load.specs.Loaded.{Accepts}
use Rattle.nbrun_top.specs.Ran.{read_of}
use Rattle.nb_text.specs.Notebooks.{text_of}

-- the run began with the read of the input, its bytes give a notebook that takes the parameters, and this is its text with them
pub record IsTextOf (a : Ask) (journal : List Entry) (text : List ℕ) : Type 0 where
  pub bytes : List ℕ
  pub notebook : Notebook
  pub later : List Entry
  pub was_read : journal ≡ later ++ read_of a (found.Whole bytes) []
  pub accepted : Accepts a bytes notebook
  pub is : text ≡ text_of notebook

-- one of the two that a crash may leave: what was there before the run, or the whole text
abbrev pub IsOldOrText : Ask → List Entry → Left → Type 0
IsOldOrText a journal o = (o ≡ left.Old) ⊎ ((text : List ℕ) × IsTextOf a journal text × (o ≡ left.Whole text))

-- at every moment a crash leaves one of these at the output, and nothing else
abbrev pub IsSafe : Ask → List Entry → Type 0
IsSafe a journal = (t : ℕ) → t ≤ length journal → (o : Left) → Among o (leaves (upto t journal) a.output) → IsOldOrText a journal o
