-- What a crash may leave at a job's output while its saves grow (POSIX.1: rename, fsync of the folder).
use Rattle.std.specs.Prelude.{List, [], ◌∷◌}
use Rattle.world.specs.declared.entry.Entry.{Entry}
use Rattle.progress_save.specs.Safe.{IsSafe}
use Rattle.zmtp_wire.specs.Meaning.{Begins}
use Rattle.run_journal.specs.Job.{Job}
use Rattle.run_journal.specs.Saves.{saves, texts}

-- the newest entry takes no save back that was due before it
abbrev pub KeepsSaves : Job → List Entry → Type 0
KeepsSaves j [] = Unit {0}
KeepsSaves j (entry ∷ past) = Begins (saves j past) (saves j (entry ∷ past))

-- at this moment a crash leaves at the output the text that was acknowledged last, or the next one, of the saves due by then
abbrev pub IsSafeNow : Job → List Entry → Type 0
IsSafeNow j now = IsSafe j.output (texts j now) now

-- the newest entry takes no save back, and the output is safe
pub record StepsSafely (j : Job) (now : List Entry) : Type 0 where
  pub keeps : KeepsSaves j now
  pub safe : IsSafeNow j now
