-- What a save of a job adds to the journal, by how it ends the job; the newest entry is first (POSIX.1: open, write, fsync, rename,
-- fsync of the folder).
use Rattle.std.specs.Prelude.{◌≡◌, ℕ, List, Result, Ok, Err}
use Rattle.world.specs.declared.entry.Entry.{Entry}
use Rattle.save_disk.specs.Entries.{SaveOf}
use Rattle.progress_save.specs.Saved.{SavesThenSays, done, failure}
use Rattle.job_end.specs.declared.end.End.{End}
use Rattle.job_end.specs.declared.end.End.TheVariants as end

-- the fact holds where the save called the disk
abbrev pub OnTried : {U : Type 0} → Result U End → Type 0 → Type 0
OnTried (Ok u) fact = fact
OnTried (Err (end.NotSaved f)) fact = fact
OnTried (Err e) fact = Unit {0}

-- the entries of a save of this text: behind one that is done its line is said, and where memory was wanted there are none
abbrev pub SavesOrEnds : {U : Type 0} → List ℕ → List ℕ → List ℕ → Type 0 → Result U End → List Entry → List Entry → Type 0
SavesOrEnds output text line failed (Ok u) before after = SavesThenSays output text line failed before after
SavesOrEnds output text line failed (Err (end.NotSaved f)) before after = SaveOf output text (failure f) before after
SavesOrEnds output text line failed (Err e) before after = after ≡ before

-- the same where a say has failed before: nothing is said
abbrev pub SavesOrEndsSilently : {U : Type 0} → List ℕ → List ℕ → Result U End → List Entry → List Entry → Type 0
SavesOrEndsSilently output text (Ok u) before after = SaveOf output text done before after
SavesOrEndsSilently output text (Err (end.NotSaved f)) before after = SaveOf output text (failure f) before after
SavesOrEndsSilently output text (Err e) before after = after ≡ before
