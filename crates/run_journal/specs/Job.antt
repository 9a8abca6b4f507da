-- A job as the journal's definitions see it: what its command line and its first entries fix.
use Rattle.std.specs.Prelude.{ℕ, List, Bool, Option}
use Rattle.jcontent.specs.declared.content.Content.{Content}
use Rattle.out_fold.specs.declared.used.Used.{Used}
use Rattle.cell_core.specs.Task.{Task}
use Rattle.run_journal.specs.Codec.{Codec}

-- what the input gives: no notebook, with the status and what is said; the one text of a notebook that is only
-- prepared; or a notebook to run
pub data Given : Type 0 where
  Refuses : ℕ → List ℕ → Given
  Prepares : List ℕ → Given
  Runs : Given

-- a job
pub record Job : Type 0 where
  pub number : ℕ
  pub input : List ℕ
  pub inputs : List (List ℕ)  -- those of all jobs
  pub output : List ℕ
  pub given : Given
  pub name_fault : Option (List ℕ)  -- why its kernel's name is refused
  pub spec_fault : Option (List ℕ)  -- why what its kernel's spec holds is refused
  pub task : Task  -- the cells to run, and the limits
  pub heartbeat : Bool
  pub fatal : ℕ → Content → Bool  -- whether this reply to the request with this number from 0 stops the run
  pub print : List Used → ℕ → Option ℕ → List ℕ  -- the text of a save: what was used, how many cells it settles, the stopping cell
  pub msg_id : ℕ → List ℕ  -- the id of its message of this number from 1
  pub codec : Codec
  pub turns : ℕ  -- how many waits a run makes at most
