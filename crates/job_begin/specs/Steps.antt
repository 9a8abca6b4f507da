-- What the steps of a job's begin make of the world, for each job that hasn't saved yet.
use Rattle.std.specs.Prelude.{◌≡◌, ℕ, ◌+◌, zero, suc, length, List, Bool, true, Option, Some, None, IfSome, Result, Ok, Err, IfErr}
use Rattle.nb_model.specs.declared.notebook.Notebook.{Notebook}
use Rattle.words.specs.declared.ask.Ask.{Ask}
use Rattle.world.specs.declared.entry.Entry.{Entry}
use Rattle.world.specs.Counts.{Counts}
use Rattle.world.specs.Moments.{Told}
use Rattle.save_disk.specs.Places.{save_count}
use Rattle.cell_core.specs.Task.{Task}
use Rattle.job_end.specs.declared.end.End.{End}
use Rattle.job_end.specs.declared.end.End.TheVariants as end
use Rattle.job_end.specs.Statuses.{status_of}
use Rattle.job_saves.specs.Calls.{Cast}
use Rattle.job_saves.specs.Children.{KeepsEnd}
use Rattle.job_saves.specs.Course.{Origin, IsFor, HasCalled, Begins, Ends}
use Rattle.job_saves.specs.Left.{IsLeft, output_at}
use Rattle.job_run.specs.declared.job.Job.{Job}
use Rattle.job_run.specs.Counted.{IsCausedAfter}
use Rattle.job_run.specs.Run.{IsNew, BeginsNew, IsCastAs, HasNoChild, HasNoPorts, HasNoSave, OnlyReads, StartsAs, StartsInRole}
use Rattle.job_begin.specs.Begun.{counted_task}

-- calls save this notebook and end the job; no save has failed in them where `is_open`
abbrev pub SavesFor : {W : Type 0} → (W → Option (List Entry)) → (W → Counts) → W → W → Ask → Notebook → Bool → Type 0
SavesFor journal counts old new a first is_open = (o : Origin) → IsFor a.output a.merge first o → Begins o (journal old) (counts old)
    → Ends o is_open (journal new) (counts new)

-- calls save this notebook, of which nothing was saved before, and the job runs or has ended
abbrev pub StartsFor : {W : Type 0} → (W → Option (List Entry)) → (W → Counts) → W → W → Ask → Notebook → Result Job End → Type 0
StartsFor journal counts old new a first result = (o : Origin) → IsFor a.output a.merge first o → Begins o (journal old) (counts old)
    → BeginsNew o (journal old) → StartsAs o result (journal new) (counts new)

-- a job ended so: of the events of this task that brought the end as many are saves as were acknowledged, and they left what its
-- cause asks for
abbrev pub EndsCounted : Origin → Option Task → Option (List Entry) → End → Type 0
EndsCounted o task journal e = (t : Task) → task ≡ Some t → IsNew o → IfSome journal (λ past. IsCausedAfter (output_at o past) t (status_of e))

-- calls of a job of which nothing was saved before, where they end it: of the events that brought the end as many are saves as were
-- acknowledged, and they left what its cause asks for
abbrev pub CountsEnd : {W : Type 0} → (W → Option (List Entry)) → (W → Counts) → W → W → Ask → Notebook → Result Job End → Type 0
CountsEnd journal counts old new a first result = (o : Origin) → IsFor a.output a.merge first o → Begins o (journal old) (counts old)
    → BeginsNew o (journal old) → IfErr result (EndsCounted o (counted_task a first) (journal new))

-- how many saves follow that of the notebook as it waits, where none of its so many cells is executed: one if it has cells
abbrev pub closing_saves : ℕ → ℕ
closing_saves zero = 0
closing_saves (suc n) = 1

-- calls by which so many saves of this output are acknowledged
abbrev pub Acknowledges : {W : Type 0} → (W → Option (List Entry)) → W → W → List ℕ → ℕ → Type 0
Acknowledges journal old new output n = Told (journal old) (journal new) (λ before after. save_count output after ≡ save_count output before + n)

-- after calls that save this notebook of a job that hasn't saved yet, a crash leaves it with all cells settled, and none at which
-- its run stopped
abbrev pub LeavesWhole : {W : Type 0} → (W → Option (List Entry)) → (W → Counts) → W → W → Ask → Notebook → Type 0
LeavesWhole journal counts old new a first = (o : Origin) → o.is_watched ≡ true → IsFor a.output a.merge first o → Begins o (journal old) (counts old)
    → IfSome (journal new) (λ past. IsLeft (output_at o past) (length first.cells) None)

-- the end of a job that was to save its notebook, and nothing more
abbrev pub end_by : {U : Type 0} → Result U End → End
end_by (Ok u) = end.Done
end_by (Err e) = e

-- calls of a job that ends are those of the job that is asked for, where this is the notebook that it has read and saves first
abbrev pub EndsInRole : {W : Type 0} → (W → Option (List Entry)) → (W → Counts) → W → W → Ask → Notebook → Type 0
EndsInRole journal counts old new a first = (c : Cast) (number : ℕ) (since : List Entry) (from : Counts) → c.job number ≡ Some a
    → OnlyReads c a first (journal old) → HasCalled c since from (journal old) (counts old) → HasCalled c since from (journal new) (counts new)

-- calls of a job that runs or has ended are those of the job that is asked for, in this working folder; where the jobs began
-- clean, no child of its number is there, it has asked for no ports, and no save of it was acknowledged
abbrev pub BeginsInRole : {W E : Type 0} → (W → Option (List Entry)) → (W → Counts) → W → W → ℕ → Ask → List ℕ → Result Job E → Type 0
BeginsInRole journal counts old new number a here result = (c : Cast) (since : List Entry) (from : Counts) → IsCastAs c number a here
    → HasNoChild c number (journal old) → HasNoPorts c number (journal old) → HasNoSave c a (journal old) → HasCalled c since from (journal old) (counts old) → StartsInRole c since from result (journal new) (counts new)

-- a job that has ended left no child without its end
abbrev pub LeavesNone : {W E : Type 0} → (W → Option (List Entry)) → W → W → ℕ → Result Job E → Type 0
LeavesNone journal old new number result = IfErr result (λ e. KeepsEnd number (journal old) (journal new))
