-- What a crash leaves at the output of a job (POSIX rename and fsync).
use Rattle.std.specs.Prelude.{◌≡◌, ℕ, List, Bool, Option}
use Rattle.nb_model.specs.declared.notebook.Notebook.{Notebook}
use Rattle.out_fold.specs.declared.used.Used.{Used}
use Rattle.out_fold.specs.Fit.{AreRead}
use Rattle.world.specs.declared.entry.Entry.{Entry}
use Rattle.world.specs.Disk.{place}
use Rattle.save_disk.specs.Places.{save_count, durable_place}
use Rattle.save_course.specs.Course.{prefix_text}
use Rattle.job_saves.specs.Course.{Origin}

-- the output of a job at some moment: its path, whether neighbouring streams of one name are joined, the notebook as it is before
-- its cells are executed, and the journal then
pub record OutputAt : Type 0 where
  pub output : List ℕ
  pub merge : Bool
  pub first : Notebook
  pub past : List Entry

-- the output of a job that began so, at the end of this journal
abbrev pub output_at : Origin → List Entry → OutputAt
output_at o past = record { output = o.output; merge = o.merge; first = o.first; past = past }

-- how many saves of it were acknowledged
abbrev pub acks_at : OutputAt → ℕ
acks_at m = save_count m.output m.past

-- A crash leaves there just the text of the notebook with so many cells settled, for some messages whose contents were read;
-- `stop` is the cell at which the run stopped.
pub record IsLeft (m : OutputAt) (settled : ℕ) (stop : Option ℕ) : Type 0 where
  pub us : List Used
  pub read : AreRead us
  pub place_is : place m.past m.output ≡ durable_place (prefix_text m.merge m.first (record { us = us; settled = settled; stop = stop }))

-- at a later moment as many saves are acknowledged, and a crash leaves what it left
pub record StaysLeft (was now : OutputAt) : Type 0 where
  pub count : acks_at now ≡ acks_at was
  pub left : (settled : ℕ) (stop : Option ℕ) → IsLeft was settled stop → IsLeft now settled stop
