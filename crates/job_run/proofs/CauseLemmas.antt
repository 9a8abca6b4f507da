-- The causes of ends, by the counts.
use Rattle.std.proofs.Common.{◌≡◌, ◌⊎◌, inl, inr, ℕ, ◌≤◌, List, [], Option, Some, None, Result, Ok, Err, refl, sym, ap, ◌∙◌, arith}
use Rattle.std.specs.Prelude.{false, IfSome, IfErr}
use Rattle.world.specs.declared.chan.Chan.{Chan}
use Rattle.world.specs.declared.entry.Entry.{Entry}
use Rattle.world.specs.Counts.{Counts, CountsGrow, Rose, no_counts}
use Rattle.world.specs.Moments.{Since, Told}
use Rattle.world.proofs.CountsLemmas.{grow_start}
use Rattle.world.proofs.MomentsLemmas.{or_none, at_start, told_as}
use Rattle.words.specs.declared.ask.Ask.{Ask}
use Rattle.job_end.specs.declared.end.End.{End}
use Rattle.job_end.specs.declared.end.End.TheVariants as end
use Rattle.job_notebook.specs.declared.notebook.JobNotebook.{JobNotebook}
use Rattle.job_notebook.specs.State.{output_of}
use Rattle.job_saves.specs.Calls.{Cast, IsCall}
use Rattle.job_saves.specs.Children.{KeepsEnd, AsksNone}
use Rattle.job_saves.specs.Course.{HasPart, KeepsPart}
use Rattle.job_saves.proofs.ChildLemmas.{told_asks_none, StartsNone, told_keeps_end}
use Rattle.job_saves.proofs.CourseLemmas.{work_start}
use Rattle.job_saves.proofs.ToldLemmas.{told_by}
use Rattle.run_journal.specs.Job.{Job}
use Rattle.run_journal.specs.Parts.{bytes_got}
use Rattle.job_run.specs.Run.{EndCause}
use Rattle.job_run.specs.Told.{EndsBy}
use Rattle.cell_core.specs.Task.{Task}
use Rattle.job_run.proofs.BrokenLemmas.{calls_bring_none}

rose_within : (a b c d : ℕ) → a ≤ b → c ≤ d → Rose b c → Rose a d
rose_within a b c d more later rose = grind (arith, more, later, rose)

start_within : (old mid late new : Counts) → CountsGrow old mid → CountsGrow late new → (Rose mid.rand late.rand) ⊎ (Rose mid.child late.child)
    → (Rose old.rand new.rand) ⊎ (Rose old.child new.child)
start_within old mid late new grow more (inl rand) = inl (rose_within old.rand mid.rand late.rand new.rand grow.rand more.rand rand)
start_within old mid late new grow more (inr child) = inr (rose_within old.child mid.child late.child new.child grow.child more.child child)

-- a cause that was seen between two moments stands between earlier and later ones
pub cause_within : (old mid late new : Counts) (e : End) → CountsGrow old mid → CountsGrow late new → EndCause mid late e → EndCause old new e
cause_within old mid late new end.Done grow more h = tt
cause_within old mid late new (end.CellError cell name) grow more h = tt
cause_within old mid late new (end.NotRead path) grow more h = rose_within old.disk mid.disk late.disk new.disk grow.disk more.disk h
cause_within old mid late new end.TooLarge grow more h = tt
cause_within old mid late new (end.NotLoaded f) grow more h = tt
cause_within old mid late new end.NoKernelName grow more h = tt
cause_within old mid late new end.BadKernelName grow more h = tt
cause_within old mid late new (end.BadSpec f) grow more h = tt
cause_within old mid late new end.NotStarted grow more h = start_within old mid late new grow more h
cause_within old mid late new end.NotReady grow more h = tt
cause_within old mid late new end.KernelLost grow more h = tt
cause_within old mid late new (end.TimedOut cell) grow more h = tt
cause_within old mid late new (end.NotSaved f) grow more h = tt
cause_within old mid late new end.NoConnectionFile grow more h = rose_within old.disk mid.disk late.disk new.disk grow.disk more.disk h
cause_within old mid late new end.NoMemory grow more h = tt
cause_within old mid late new (end.NoIdle cell) grow more h = tt
cause_within old mid late new end.NetFault grow more h = rose_within old.net mid.net late.net new.net grow.net more.net h
cause_within old mid late new (end.BadPeer chan f) grow more h = tt
cause_within old mid late new end.Spent grow more h = h

pub cause_stays : (old mid new : Counts) (e : End) → CountsGrow old mid → EndCause mid new e → EndCause old new e
cause_stays old mid new e grow h = cause_within old mid new new e grow (grow_start new) h

pub causes_within : {A : Type 0} (old mid late new : Counts) (r : Result A End) → CountsGrow old mid → CountsGrow late new → IfErr r (EndCause mid late) → IfErr r (EndCause old new)
causes_within old mid late new (Ok a) grow more h = tt
causes_within old mid late new (Err e) grow more h = cause_within old mid late new e grow more h

pub causes_stay : {A : Type 0} (old mid new : Counts) (r : Result A End) → CountsGrow old mid → IfErr r (EndCause mid new) → IfErr r (EndCause old new)
causes_stay old mid new r grow h = causes_within old mid new new r grow (grow_start new) h

-- what ends a run by itself has no cause to show here
pub own_caused : (task : Task) (old new : Counts) (e : End) → EndsBy task e → EndCause old new e
own_caused task old new end.Done own = tt
own_caused task old new (end.CellError cell name) own = tt
own_caused task old new (end.NotRead path) own = absurd own
own_caused task old new end.TooLarge own = absurd own
own_caused task old new (end.NotLoaded f) own = absurd own
own_caused task old new end.NoKernelName own = absurd own
own_caused task old new end.BadKernelName own = absurd own
own_caused task old new (end.BadSpec f) own = absurd own
own_caused task old new end.NotStarted own = absurd own
own_caused task old new end.NotReady own = tt
own_caused task old new end.KernelLost own = tt
own_caused task old new (end.TimedOut cell) own = tt
own_caused task old new (end.NotSaved f) own = tt
own_caused task old new end.NoConnectionFile own = absurd own
own_caused task old new end.NoMemory own = tt
own_caused task old new (end.NoIdle cell) own = tt
own_caused task old new end.NetFault own = absurd own
own_caused task old new (end.BadPeer chan f) own = tt
own_caused task old new end.Spent own = absurd own

-- ---- calls of a job that starts no child

-- a job with this output
abbrev job_on : List ℕ → Ask
job_on output = record {
  input = [];
  output = output;
  kernel = None;
  kernel_path = [];
  cwd = [];
  params = [];
  prepare = false;
  report = false;
  merge = false;
  all_errors = false;
  interrupt = false;
  heartbeat = false;
  names = [];
  start_ms = 0;
  limit_ms = None;
}

-- no other, and no child is started
abbrev alone : List ℕ → Cast
alone output = record { job = λ n. Some (job_on output); here = []; starts = false; clean = false }

starts_none : (output : List ℕ) (n : ℕ) → StartsNone (alone output) n
starts_none output n number a has starts = absurd (cc)

has_part : (was : JobNotebook) (j : Option (List Entry)) (c : Counts) (since : List Entry) → IfSome j (Since (IsCall (alone (output_of was))) since)
    → HasPart (alone (output_of was)) since c was j c
has_part was j c since held = record {
  number = 0;
  ask = job_on (output_of was);
  has = refl;
  output = refl;
  so = record { told = held; counts_work = work_start c; spoken = λ e. absurd (cc) };
  told = λ e. absurd (cc);
}

abbrev ask_in : List ℕ → Option Ask → List ℕ
ask_in other None = other
ask_in other (Some a) = a.output

module _ (was now : JobNotebook) (j k : Option (List Entry)) (c d : Counts)
    (calls : (cast : Cast) (since : List Entry) (from : Counts) → HasPart cast since from was j c → HasPart cast since from now k d) where
  -- no count falls
  pub calls_grow : CountsGrow c d
  calls_grow = (calls (alone (output_of was)) (or_none j) c (has_part was j c (or_none j) (at_start (IsCall (alone (output_of was))) j))).so.counts_work.grow

  pub calls_told : Told j k (Since (IsCall (alone (output_of was))))
  calls_told = told_by (IsCall (alone (output_of was))) j k (λ since held. (calls (alone (output_of was)) since c (has_part was j c since held)).so.told)

  -- and no child is left without its end
  pub calls_end : (n : ℕ) → KeepsEnd n j k
  calls_end n = told_keeps_end (alone (output_of was)) n (starts_none (output_of was) n) j k calls_told

  -- nor are ports asked for
  pub calls_ask_none : (n : ℕ) → AsksNone n j → AsksNone n k
  calls_ask_none n = told_asks_none (alone (output_of was)) n (starts_none (output_of was) n) j k calls_told

  -- no byte of a job is got
  pub calls_got_none : (facts : Job) → Told j k (λ before now. (chan : Chan) → bytes_got facts chan now ≡ bytes_got facts chan before)
  calls_got_none facts = told_as calls_told (λ before now w. calls_bring_none facts (alone (output_of was)) before now w)

  -- they are of the same output
  pub calls_output : output_of now ≡ output_of was
  calls_output =
      let part = calls (alone (output_of was)) (or_none j) c (has_part was j c (or_none j) (at_start (IsCall (alone (output_of was))) j)) in
      part.output ∙ ap (ask_in (output_of was)) (sym part.has)

-- ---- what keeps its part keeps its output

pub part_output : (was now : JobNotebook) → KeepsPart was now → output_of now ≡ output_of was
part_output was now keeps =
    let part = keeps (alone (output_of was)) [] no_counts None no_counts (has_part was None no_counts [] tt) in
    part.output ∙ ap (ask_in (output_of was)) (sym part.has)
