-- What a `JobNotebook` has, and which notebook and messages it keeps.
use Rattle.std.specs.Prelude.{◌≡◌, ℕ, Bool, true, List, Option, None, is_some, Result, Ok, Err}
use Rattle.nb_model.specs.declared.notebook.Notebook.{Notebook}
use Rattle.out_fold.specs.declared.used.Used.{Used}
use Rattle.out_fold.specs.Fit.{AreRead}
use Rattle.out_fold.specs.Stands.{next_of}
use Rattle.out_fold.specs.Stands as fold
use Rattle.progress_save.specs.declared.progress_fault.ProgressFault.{ProgressFault}
use Rattle.progress_save.specs.declared.progress_fault.ProgressFault.TheVariants as fault
use Rattle.progress_save.specs.Prefix.{prefix}
use Rattle.progress_save.specs.State as saves
use Rattle.job_notebook.specs.declared.notebook.JobNotebook.{JobNotebook}
use Rattle.job_notebook.specs.Kept.{IsKept}

-- the notebook as it was saved last
abbrev pub notebook_of : JobNotebook → Notebook
notebook_of b = b.notebook

-- how many of its cells are settled
abbrev pub settled_of : JobNotebook → ℕ
settled_of b = b.settled

-- the least cell that may begin: one above the current one, and 0 where none has begun
abbrev pub begun_of : JobNotebook → ℕ
begun_of b = next_of b.fold

-- whether neighbouring streams of one name are joined
abbrev pub merge_of : JobNotebook → Bool
merge_of b = fold.merge_of b.fold

-- the path that it saves to
abbrev pub output_of : JobNotebook → List ℕ
output_of b = saves.output_of b.progress

-- no further save is made
abbrev pub is_closed : JobNotebook → Bool
is_closed b = b.is_closed

-- It keeps this notebook, as it was before its cells were executed, and these messages that were used for their requests:
-- what it saved last is a prefix of that notebook, for the messages that were used until then.
abbrev pub Keeps : JobNotebook → Notebook → List Used → Type 0
Keeps b first us = IsKept b.fold b.notebook b.settled b.progress first us

-- it keeps this notebook and some messages whose contents were all read
pub record KeepsRead (b : JobNotebook) (first : Notebook) : Type 0 where
  pub us : List Used
  pub keeps : Keeps b first us
  pub read : AreRead us

-- all but the messages is as before
pub record KeepsParts (old new : JobNotebook) : Type 0 where
  pub notebook : notebook_of new ≡ notebook_of old
  pub settled : settled_of new ≡ settled_of old
  pub merge : merge_of new ≡ merge_of old
  pub output : output_of new ≡ output_of old
  pub closed : is_closed new ≡ is_closed old

-- The notebook is the prefix that is to be saved next, and each text that is kept is that of its cell. Where the run hasn't
-- stopped it keeps what the old one kept.
pub record IsReady (old new : JobNotebook) (p : ℕ) (stop : Option ℕ) (first : Notebook) (us : List Used) : Type 0 where
  pub is : notebook_of new ≡ prefix (merge_of old) us p stop first
  pub fits : saves.Fits new.progress (notebook_of new).cells
  pub keeps : stop ≡ None → Keeps new first us

-- the fact holds where the save called the disk
abbrev pub OnCall : {U : Type 0} → Result U ProgressFault → Type 0 → Type 0
OnCall (Ok u) called = called
OnCall (Err (fault.Save f)) called = called
OnCall (Err fault.Closed) called = Unit {0}
OnCall (Err fault.NoMemory) called = Unit {0}

-- whether no further save is made after one with this answer: so after that of a stop, and after an error
abbrev pub closed_after : {U : Type 0} → Result U ProgressFault → Option ℕ → Bool
closed_after (Ok u) stop = is_some stop
closed_after (Err e) stop = true
