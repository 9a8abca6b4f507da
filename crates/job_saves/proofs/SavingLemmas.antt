-- What a save adds to the journal, by the end of the job that its answer is.
use Rattle.std.proofs.Common.{◌≡◌, ℕ, List, Result, Ok, Err, sym, subst}
use Rattle.std.specs.Prelude.{OnOk}
use Rattle.world.specs.declared.entry.Entry.{Entry}
use Rattle.progress_save.specs.declared.progress_fault.ProgressFault.{ProgressFault}
use Rattle.progress_save.specs.declared.progress_fault.ProgressFault.TheVariants as fault
use Rattle.progress_save.specs.Saved.{SavesAs, SavesSilently}
use Rattle.job_end.specs.declared.end.End.{End}
use Rattle.job_notebook.specs.State.{OnCall}
use Rattle.job_saves.specs.Course.{answer_of}
use Rattle.job_saves.specs.Saving.{OnTried, SavesOrEnds, SavesOrEndsSilently}

tried : {U : Type 0} (saved : Result U ProgressFault) (fact : Type 0) → OnCall saved fact → OnTried (answer_of saved) fact
tried (Ok u) fact h = h
tried (Err (fault.Save f)) fact h = h
tried (Err fault.Closed) fact h = tt
tried (Err fault.NoMemory) fact h = tt

-- what holds where the disk was called holds so by the end
pub on_tried : {U : Type 0} (saved : Result U ProgressFault) (result : Result U End) (fact : Type 0) → result ≡ answer_of saved → OnCall saved fact → OnTried result fact
on_tried saved result fact is h = subst (λ r. OnTried r fact) (sym is) (tried saved fact h)

done : {U : Type 0} (saved : Result U ProgressFault) (fact : Type 0) → OnOk saved fact → OnOk (answer_of saved) fact
done (Ok u) fact h = h
done (Err (fault.Save f)) fact h = tt
done (Err fault.Closed) fact h = tt
done (Err fault.NoMemory) fact h = tt

-- what holds where the save was done holds so by the end
pub on_done : {U : Type 0} (saved : Result U ProgressFault) (result : Result U End) (fact : Type 0) → result ≡ answer_of saved → OnOk saved fact → OnOk result fact
on_done saved result fact is h = subst (λ r. OnOk r fact) (sym is) (done saved fact h)

ends : {U : Type 0} (output text line : List ℕ) (failed : Type 0) (saved : Result U ProgressFault) (before after : List Entry)
    → SavesAs output text line failed saved before after → SavesOrEnds output text line failed (answer_of saved) before after
ends output text line failed (Ok u) before after h = h
ends output text line failed (Err (fault.Save f)) before after h = h
ends output text line failed (Err fault.Closed) before after h = h
ends output text line failed (Err fault.NoMemory) before after h = h

-- the entries of a save, by the end of its job
pub entries_answer : {U : Type 0} (output text line : List ℕ) (failed : Type 0) (saved : Result U ProgressFault) (result : Result U End) (before after : List Entry)
    → result ≡ answer_of saved → SavesAs output text line failed saved before after → SavesOrEnds output text line failed result before after
entries_answer output text line failed saved result before after is h =
    subst (λ r. SavesOrEnds output text line failed r before after) (sym is) (ends output text line failed saved before after h)

ends_silently : {U : Type 0} (output text : List ℕ) (saved : Result U ProgressFault) (before after : List Entry)
    → SavesSilently output text saved before after → SavesOrEndsSilently output text (answer_of saved) before after
ends_silently output text (Ok u) before after h = h
ends_silently output text (Err (fault.Save f)) before after h = h
ends_silently output text (Err fault.Closed) before after h = h
ends_silently output text (Err fault.NoMemory) before after h = h

-- and so where nothing is said
pub silent_answer : {U : Type 0} (output text : List ℕ) (saved : Result U ProgressFault) (result : Result U End) (before after : List Entry)
    → result ≡ answer_of saved → SavesSilently output text saved before after → SavesOrEndsSilently output text result before after
silent_answer output text saved result before after is h =
    subst (λ r. SavesOrEndsSilently output text r before after) (sym is) (ends_silently output text saved before after h)
