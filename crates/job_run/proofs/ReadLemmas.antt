-- Calls that read no clock.
use Rattle.std.proofs.Common.{ℕ, List, Result, Ok, Err, sym, subst}
use Rattle.world.specs.declared.entry.Entry.{Entry}
use Rattle.world.specs.Moments.{Since, start}
use Rattle.world.specs.Parts.{IsNotOf, OnClock, OnDisk, OnSay}
use Rattle.world.proofs.MomentsLemmas.{since_as, since_then}
use Rattle.world.proofs.PartsLemmas.{is_not_of}
use Rattle.said_lines.specs.Speech.{Says}
use Rattle.said_lines.proofs.SpeechLemmas.{says_since}
use Rattle.save_disk.specs.Entries.{SaveOf}
use Rattle.save_disk.proofs.Laws.{part_of_save}
use Rattle.progress_save.specs.Saved.{SaveAnswer, done, failure}
use Rattle.job_end.specs.declared.end.End.{End}
use Rattle.job_end.specs.declared.end.End.TheVariants as end
use Rattle.job_saves.specs.Saving.{SavesOrEnds}
use Rattle.job_run.proofs.PartLemmas.{disk_unclocked, say_unclocked}

save_reads : (output text : List ℕ) (answer : SaveAnswer) (before after : List Entry) → SaveOf output text answer before after → Since (IsNotOf OnClock) before after
save_reads output text answer before after s = since_as (is_not_of OnDisk OnClock disk_unclocked) (part_of_save output text before answer after s)

says_reads : {text : List ℕ} {failed : Type 0} {before after : List Entry} → Says text failed before after → Since (IsNotOf OnClock) before after
says_reads s = since_as (is_not_of OnSay OnClock say_unclocked) (says_since s)

-- a save of a job, by how it ends the job
pub saves_read : (output text line : List ℕ) (failed : Type 0) (result : Result (Unit {0}) End) (before after : List Entry) → SavesOrEnds output text line failed result before after
    → Since (IsNotOf OnClock) before after
saves_read output text line failed (Ok u) before after s = since_then (save_reads output text done before s.past s.saves) (says_reads s.says)
saves_read output text line failed (Err (end.NotSaved f)) before after s = save_reads output text (failure f) before after s
saves_read output text line failed (Err _) before after e = subst (Since (IsNotOf OnClock) before) (sym e) start
