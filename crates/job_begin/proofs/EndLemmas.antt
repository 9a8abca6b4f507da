-- By which cause a job ends whose begin ends it.
use Rattle.std.proofs.Common.{◌≡◌, ◌⊎◌, inl, inr, ◌<◌, ℕ, List, [], ◌∷◌, length, true, false, Option, Some, None, Result, Ok, Err, refl, sym, ◌∙◌, ap, subst}
use Rattle.std.specs.Prelude.{IfOk, IfErr}
use Rattle.nb_model.specs.declared.notebook.Notebook.{Notebook}
use Rattle.nb_model.specs.Planned.{plan}
use Rattle.nb_load.specs.declared.load_fault.LoadFault.{LoadFault}
use Rattle.nb_load.specs.declared.load_fault.LoadFault.TheVariants as load
use Rattle.words.specs.declared.ask.Ask.{Ask}
use Rattle.world.specs.declared.entry.Entry.{Entry}
use Rattle.world.specs.declared.entry.Entry.TheVariants as made
use Rattle.world.specs.declared.read_file.ReadFile.{ReadFile}
use Rattle.world.specs.declared.read_file.ReadFile.TheVariants as found
use Rattle.world.specs.Counts.{Counts, CountsGrow}
use Rattle.world.specs.Moments.{Since, start, Told}
use Rattle.world.specs.Touched.{Spares}
use Rattle.world.proofs.MomentsLemmas.{told_as, since_then}
use Rattle.std.proofs.Math.Logic.{∥∥₁_elim}
use Rattle.kernel_start.specs.declared.kernel.Kernel.{Kernel}
use Rattle.kernel_start.specs.declared.kernel_fault.KernelFault.{KernelFault}
use Rattle.kernel_start.specs.declared.kernel_fault.KernelFault.TheVariants as kernel_fault
use Rattle.kernel_start.specs.Finding.{FindsBy}
use Rattle.cell_core.specs.Task.{Task}
use Rattle.world.proofs.CountsLemmas.{grow_start}
use Rattle.cell_core.specs.declared.why.Why.{Why}
use Rattle.cell_core.specs.declared.why.Why.TheVariants as why
use Rattle.job_end.specs.declared.answer.Answer.{Answer}
use Rattle.job_end.specs.declared.end.End.{End}
use Rattle.job_end.specs.declared.end.End.TheVariants as end
use Rattle.job_end.specs.Answers.{Answers, said, starved, starved_answer}
use Rattle.job_end.specs.Statuses.{status_of}
use Rattle.job_saves.specs.Course.{Origin, IsFor, Begins}
use Rattle.job_run.specs.declared.job.Job.{Job}
use Rattle.job_run.specs.Run.{Runs, RunsCounted, BeginsNew, StartsAs}
use Rattle.job_run.specs.Task.{task_for, task_of_job}
use Rattle.job_saves.specs.Speaking.{IsAnswer}
use Rattle.job_journal.specs.Ended.{cause_of}
use Rattle.job_run.specs.Told.{EndsJob, StartsBy, IsEnding, IsCaused}
use Rattle.job_run.proofs.StopLemmas.{why_in, start_caused}
use Rattle.job_saves.specs.Reads.{first_of}
use Rattle.job_begin.specs.Begun.{AnswersAs, IsCausedIn, IsUncaused, IsEndOfSaving, StartsWith, BeginsWith, FindsKernel, GivesNone, not_read, too_large, refused, no_memory, not_asked, IsUnread, end_for, KernelEnds, HasKernel}

-- ---- an end that names no cause

pub uncaused_in : (a : Ask) (first : Notebook) (status : ℕ) → IsUncaused status → IsCausedIn a first status
uncaused_in a first status none = record {
  done = λ e p some. let no : cause_of 0 ≡ None = subst (λ n. cause_of n ≡ None) e none in absurd (cc);
  other = λ cause ne is. let no : Some cause ≡ None = sym is ∙ none in absurd (cc);
}

pub load_uncaused : (f : LoadFault) → IsUncaused (status_of (end.NotLoaded f))
load_uncaused (load.NotJson f) = refl
load_uncaused (load.NotNotebook f) = refl
load_uncaused (load.NoTranslator language) = refl
load_uncaused load.NoMemory = refl

pub uncaused_answer : (output : List ℕ) (e : End) (a : Answer) → Answers output e a → IsUncaused (status_of e) → IsUncaused a.status
uncaused_answer output e _ said h = h
uncaused_answer output e _ starved h = refl

pub uncaused_starved : (a : Answer) → a ≡ starved_answer → IsUncaused a.status
uncaused_starved a is = ap (λ (x : Answer). cause_of x.status) is

-- ---- an end of a job of which nothing is executed

first_cause : (cause : Why) → Some why.Done ≡ Some cause → cause ≡ why.Done
first_cause cause is = sym (ap (why_in why.Done) is)

pub saving_in : (a : Ask) (first : Notebook) (e : End) → (a.prepare ≡ false → 0 < length (plan first) → ⊥) → IsEndOfSaving e → IsCausedIn a first (status_of e)
saving_in a first end.Done nothing s = record { done = λ e p some. absurd (nothing p some); other = λ cause ne is. absurd (ne (first_cause cause is)) }
saving_in a first (end.CellError cell name) nothing s = absurd s
saving_in a first (end.NotRead path) nothing s = absurd s
saving_in a first end.TooLarge nothing s = absurd s
saving_in a first (end.NotLoaded f) nothing s = absurd s
saving_in a first end.NoKernelName nothing s = absurd s
saving_in a first end.BadKernelName nothing s = absurd s
saving_in a first (end.BadSpec f) nothing s = absurd s
saving_in a first end.NotStarted nothing s = absurd s
saving_in a first end.NotReady nothing s = absurd s
saving_in a first end.KernelLost nothing s = absurd s
saving_in a first (end.TimedOut cell) nothing s = absurd s
saving_in a first (end.NotSaved f) nothing s = uncaused_in a first 10 refl
saving_in a first end.NoConnectionFile nothing s = absurd s
saving_in a first end.NoMemory nothing s = uncaused_in a first 12 refl
saving_in a first (end.NoIdle cell) nothing s = absurd s
saving_in a first end.NetFault nothing s = absurd s
saving_in a first (end.BadPeer chan f) nothing s = absurd s
saving_in a first end.Spent nothing s = absurd s

-- ---- an end of a job whose kernel was to be started

pub caused_in : (a : Ask) (first : Notebook) (status : ℕ) → IsCaused (task_for a first) status → IsCausedIn a first status
caused_in a first status h = record { done = λ e p some. h why.Done (ap cause_of e); other = λ cause ne is. h cause is }

pub started_with : (a : Ask) (first : Notebook) (r : Result Job End) → IfErr r (StartsBy (task_for a first)) → IfOk r (λ j. task_of_job j ≡ task_for a first) → StartsWith a first r
started_with a first (Ok j) own is = is
started_with a first (Err e) own is = caused_in a first (status_of e) (start_caused (task_for a first) e own)

-- ---- the answer

module _ (output : List ℕ) where
  pub answered_with : (a : Ask) (first : Notebook) (begun : Result Job End) (result : Result Job Answer) → AnswersAs output begun result → StartsWith a first begun → BeginsWith a first result
  answered_with a first (Ok j) (Ok k) same h = ap task_of_job same ∙ h
  answered_with a first (Err e) (Err _) said h = h
  answered_with a first (Err e) (Err _) starved h = uncaused_in a first 12 refl
  answered_with a first (Ok j) (Err answer) wrong h = absurd wrong
  answered_with a first (Err e) (Ok k) wrong h = absurd wrong

  pub answered_end : (begun : Result Job End) (result : Result Job Answer) → AnswersAs output begun result → IfErr result (IsAnswer output)
  answered_end (Ok j) (Ok k) same = tt
  answered_end (Err e) (Err answer) answers = ∣ record { end = e; answers = answers } ∣₁
  answered_end (Ok j) (Err answer) wrong = absurd wrong
  answered_end (Err e) (Ok k) wrong = absurd wrong

  pub starved_end : (a : Answer) → a ≡ starved_answer → IsAnswer output a
  starved_end a is = ∣ record { end = end.NoMemory; answers = subst (λ x. Answers output end.NoMemory x) (sym is) starved } ∣₁

  -- what stands of the job that runs
  pub answered_ok : (P : Job → Type 0) (begun : Result Job End) (result : Result Job Answer) → AnswersAs output begun result → IfOk begun P → IfOk result P
  answered_ok P (Ok j) (Ok k) same h = subst P (sym same) h
  answered_ok P (Err e) (Err answer) answers h = tt
  answered_ok P (Ok j) (Err answer) wrong h = absurd wrong
  answered_ok P (Err e) (Ok k) wrong h = absurd wrong

  -- what isn't watched says nothing of its saves
  unwatched_new : (o : Origin) (j : Option (List Entry)) → o.is_watched ≡ false → BeginsNew o j
  unwatched_new o j off fresh = let no : true ≡ false = sym fresh.watched ∙ off in absurd (cc)

  -- what stands of it by the counts alone
  pub counted : (a : Ask) (n : Notebook) (begun : Result Job End) (result : Result Job Answer) (old mid new : Counts) (i j : Option (List Entry)) → AnswersAs output begun result
      → CountsGrow old mid → ((o : Origin) → IsFor a.output a.merge (first_of a n) o → Begins o i mid → BeginsNew o i → StartsAs o begun j new)
      → IfOk result (λ job. RunsCounted old job j new)
  counted a n (Ok x) (Ok y) old mid new i j same grow goes =
      let o : Origin = record { is_watched = false; output = a.output; merge = a.merge; first = first_of a n; before = []; counts = mid } in
      let for : IsFor a.output a.merge (first_of a n) o = record { output_is = refl; merge_is = refl; first_is = refl } in
      let begins : Begins o i mid = record { told = λ on. absurd (cc); grow = grow_start mid } in
      record { origin = o; unwatched = refl; grow = grow; runs = subst (λ z. Runs o z j new) (sym same) (goes o for begins (unwatched_new o i refl)) }
  counted a n (Err e) (Err answer) old mid new i j answers grow goes = tt
  counted a n (Ok x) (Err answer) old mid new i j wrong grow goes = absurd wrong
  counted a n (Err e) (Ok y) old mid new i j wrong grow goes = absurd wrong

-- ---- ends with 4 and 5

-- a status that tells of no refused notebook and of no kernel
abbrev pub IsOther : ℕ → Type 0
IsOther status = (status ≡ 5 → ⊥) × (status ≡ 4 → ⊥)

start_other : (task : Task) (e : End) → StartsBy task e → IsOther (status_of e)
start_other task end.Done s = (λ is. absurd (cc), λ is. absurd (cc))
start_other task (end.CellError cell name) s = (λ is. absurd (cc), λ is. absurd (cc))
start_other task (end.NotRead path) s = absurd s
start_other task end.TooLarge s = absurd s
start_other task (end.NotLoaded f) s = absurd s
start_other task end.NoKernelName s = absurd s
start_other task end.BadKernelName s = absurd s
start_other task (end.BadSpec f) s = absurd s
start_other task end.NotStarted s = (λ is. absurd (cc), λ is. absurd (cc))
start_other task end.NotReady s = (λ is. absurd (cc), λ is. absurd (cc))
start_other task end.KernelLost s = (λ is. absurd (cc), λ is. absurd (cc))
start_other task (end.TimedOut cell) s = (λ is. absurd (cc), λ is. absurd (cc))
start_other task (end.NotSaved f) s = (λ is. absurd (cc), λ is. absurd (cc))
start_other task end.NoConnectionFile s = (λ is. absurd (cc), λ is. absurd (cc))
start_other task end.NoMemory s = (λ is. absurd (cc), λ is. absurd (cc))
start_other task (end.NoIdle cell) s = (λ is. absurd (cc), λ is. absurd (cc))
start_other task end.NetFault s = (λ is. absurd (cc), λ is. absurd (cc))
start_other task (end.BadPeer chan f) s = (λ is. absurd (cc), λ is. absurd (cc))
start_other task end.Spent s = absurd s

saving_other : (e : End) → IsEndOfSaving e → IsOther (status_of e)
saving_other end.Done s = (λ is. absurd (cc), λ is. absurd (cc))
saving_other (end.CellError cell name) s = absurd s
saving_other (end.NotRead path) s = absurd s
saving_other end.TooLarge s = absurd s
saving_other (end.NotLoaded f) s = absurd s
saving_other end.NoKernelName s = absurd s
saving_other end.BadKernelName s = absurd s
saving_other (end.BadSpec f) s = absurd s
saving_other end.NotStarted s = absurd s
saving_other end.NotReady s = absurd s
saving_other end.KernelLost s = absurd s
saving_other (end.TimedOut cell) s = absurd s
saving_other (end.NotSaved f) s = (λ is. absurd (cc), λ is. absurd (cc))
saving_other end.NoConnectionFile s = absurd s
saving_other end.NoMemory s = (λ is. absurd (cc), λ is. absurd (cc))
saving_other (end.NoIdle cell) s = absurd s
saving_other end.NetFault s = absurd s
saving_other (end.BadPeer chan f) s = absurd s
saving_other end.Spent s = absurd s

pub other_ends : (a : Ask) (first : Notebook) (j k : Option (List Entry)) (e : End) → IsOther (status_of e) → KernelEnds a first j k e
other_ends a first j k e other = record { kernel = λ is. absurd (other.0 is); loaded = other.1 }

pub saving_ends : (a : Ask) (first : Notebook) (j k : Option (List Entry)) (e : End) → IsEndOfSaving e → KernelEnds a first j k e
saving_ends a first j k e s = other_ends a first j k e (saving_other e s)

pub starting_ends : (a : Ask) (first : Notebook) (j k : Option (List Entry)) (task : Task) (r : Result Job End) → IfErr r (StartsBy task) → IfErr r (KernelEnds a first j k)
starting_ends a first j k task (Ok x) own = tt
starting_ends a first j k task (Err e) own = other_ends a first j k e (start_other task e own)

-- what a look for a kernel gave
pub looked_ends : (a : Ask) (first : Notebook) (result : Result Kernel KernelFault) (j k : Option (List Entry)) (e : End)
    → ((f : KernelFault) × (result ≡ Err f) × (e ≡ end_for f)) → Told j k (FindsBy a first result) → KernelEnds a first j k e
looked_ends a first result j k e by told = record {
  kernel = λ is. told_as told (λ x y finds. record {
    fault = by.0;
    finds = subst (λ r. FindsBy a first r x y) by.1 finds;
    end_is = by.2;
  });
  loaded = λ is. fault_other by.0 (ap status_of (sym by.2) ∙ is);
}
  where
    fault_other : (f : KernelFault) → status_of (end_for f) ≡ 4 → ⊥
    fault_other kernel_fault.NoName e = absurd (cc)
    fault_other kernel_fault.BadName e = absurd (cc)
    fault_other (kernel_fault.NotRead path) e = absurd (cc)
    fault_other (kernel_fault.BadSpec f) e = absurd (cc)
    fault_other kernel_fault.NoMemory e = absurd (cc)

pub looked_by : (a : Ask) (first : Notebook) (result : Result Kernel KernelFault) (j k : Option (List Entry)) (r : Result Kernel End)
    → IfErr r (λ e. (f : KernelFault) × (result ≡ Err f) × (e ≡ end_for f)) → Told j k (FindsBy a first result) → IfErr r (KernelEnds a first j k)
looked_by a first result j k (Ok kernel) by told = tt
looked_by a first result j k (Err e) by told = looked_ends a first result j k e by told

-- no run ends with 4 or 5
run_other : (task : Task) (e : End) → EndsJob task e → IsOther (status_of e)
run_other task end.Done s = (λ is. absurd (cc), λ is. absurd (cc))
run_other task (end.CellError cell name) s = (λ is. absurd (cc), λ is. absurd (cc))
run_other task (end.NotRead path) s = absurd s
run_other task end.TooLarge s = absurd s
run_other task (end.NotLoaded f) s = absurd s
run_other task end.NoKernelName s = absurd s
run_other task end.BadKernelName s = absurd s
run_other task (end.BadSpec f) s = absurd s
run_other task end.NotStarted s = absurd s
run_other task end.NotReady s = (λ is. absurd (cc), λ is. absurd (cc))
run_other task end.KernelLost s = (λ is. absurd (cc), λ is. absurd (cc))
run_other task (end.TimedOut cell) s = (λ is. absurd (cc), λ is. absurd (cc))
run_other task (end.NotSaved f) s = (λ is. absurd (cc), λ is. absurd (cc))
run_other task end.NoConnectionFile s = absurd s
run_other task end.NoMemory s = (λ is. absurd (cc), λ is. absurd (cc))
run_other task (end.NoIdle cell) s = (λ is. absurd (cc), λ is. absurd (cc))
run_other task end.NetFault s = (λ is. absurd (cc), λ is. absurd (cc))
run_other task (end.BadPeer chan f) s = (λ is. absurd (cc), λ is. absurd (cc))
run_other task end.Spent s = (λ is. absurd (cc), λ is. absurd (cc))

answer_other : (output : List ℕ) (task : Task) (e : End) (a : Answer) → Answers output e a → EndsJob task e → IsOther a.status
answer_other output task e _ said s = run_other task e s
answer_other output task e _ starved s = (λ is. absurd (cc), λ is. absurd (cc))

pub ending_other : (output : List ℕ) (task : Task) (a : Answer) → IsEnding output task a → IsOther a.status
ending_other output task a h = (
  λ is. ∥∥₁_elim h (λ x y. absurd x) (λ e. (answer_other output task e.end a e.answers e.by).0 is),
  λ is. ∥∥₁_elim h (λ x y. absurd x) (λ e. (answer_other output task e.end a e.answers e.by).1 is),
)

-- the kernel of a job whose begin answers so
pub answered_kernel : (a : Ask) (first : Notebook) (output : List ℕ) (begun : Result Job End) (result : Result Job Answer) (x y : List Entry) → AnswersAs output begun result
    → IfErr begun (KernelEnds a first (Some x) (Some y)) → FindsKernel a first result x y
answered_kernel a first output (Ok j) (Ok k) x y same h = tt
answered_kernel a first output (Err e) (Err _) x y said h = record {
  kernel = λ is. record { at = x; looked = y; end = e; looks = (h.kernel is).so; status_is = refl; since = start; later = start };
  loaded = h.loaded;
}
answered_kernel a first output (Err e) (Err _) x y starved h = record { kernel = λ is. absurd (cc); loaded = λ is. absurd (cc) }
answered_kernel a first output (Ok j) (Err answer) x y wrong h = absurd wrong
answered_kernel a first output (Err e) (Ok k) x y wrong h = absurd wrong

-- at the moments between which it was
pub at_moments : (a : Ask) (first : Notebook) (begun : Result Job End) (j k : Option (List Entry)) (x y : List Entry) → j ≡ Some x → k ≡ Some y → IfErr begun (KernelEnds a first j k)
    → IfErr begun (KernelEnds a first (Some x) (Some y))
at_moments a first begun j k x y e f h =
    subst (λ q. IfErr begun (KernelEnds a first (Some x) q)) f (subst (λ p. IfErr begun (KernelEnds a first p k)) e h)

-- ---- an input that gave no notebook

pub unread_answer : (a : Ask) (output : List ℕ) (e : End) (answer : Answer) (x y : List Entry) → Answers output e answer → GivesNone a x e y → IsUnread a answer.status x y
unread_answer a output e _ x y said gives = record { end = e; at = x; read = y; gives = gives; status_is = inl refl; since = start; later = start }
unread_answer a output e _ x y starved gives = record { end = e; at = x; read = y; gives = gives; status_is = inr refl; since = start; later = start }

pub unread_starved : (a : Ask) (answer : Answer) (x : List Entry) → answer ≡ starved_answer → IsUnread a answer.status x x
unread_starved a answer x is = record {
  end = end.NoMemory;
  at = x;
  read = x;
  gives = not_asked;
  status_is = inr (ap (λ (y : Answer). y.status) is);
  since = start;
  later = start;
}

pub cannot_read : (a : Ask) (e : End) (past : List Entry) → (e ≡ end.NotRead a.input) ⊎ (e ≡ end.NoMemory) → GivesNone a past e (made.Read a.input 33554432 found.Failed ∷ past)
cannot_read a e past (inl is) = subst (λ x. GivesNone a past x (made.Read a.input 33554432 found.Failed ∷ past)) (sym is) not_read
cannot_read a e past (inr is) = subst (λ x. GivesNone a past x (made.Read a.input 33554432 found.Failed ∷ past)) (sym is) (no_memory found.Failed)

-- the read that answered so
pub read_so : (a : Ask) (e : End) (past : List Entry) (answer was : ReadFile) → was ≡ answer → GivesNone a past e (made.Read a.input 33554432 answer ∷ past)
    → GivesNone a past e (made.Read a.input 33554432 was ∷ past)
read_so a e past answer was is gives = subst (λ r. GivesNone a past e (made.Read a.input 33554432 r ∷ past)) (sym is) gives

none_uncaused : (a : Ask) (x y : List Entry) (e : End) → GivesNone a x e y → IsUncaused (status_of e)
none_uncaused a x y _ not_read = refl
none_uncaused a x y _ too_large = refl
none_uncaused a x y _ (refused bytes f why) = load_uncaused f
none_uncaused a x y _ (no_memory answer) = refl
none_uncaused a x y _ not_asked = refl

-- such a status names no cause
pub unread_uncaused : (a : Ask) (status : ℕ) (x y : List Entry) → IsUnread a status x y → IsUncaused status
unread_uncaused a status x y u = elim u.status_is [
  | inl is ↦ subst IsUncaused (sym is) (none_uncaused a u.at u.read u.end u.gives)
  | inr is ↦ subst IsUncaused (sym is) refl
]

-- and stands as the journal grows
pub unread_pass : (a : Ask) (status : ℕ) (w x y z : List Entry) → Since (Spares a.output) w x → Since (Spares a.output) y z → IsUnread a status x y → IsUnread a status w z
unread_pass a status w x y z before after u = record {
  end = u.end;
  at = u.at;
  read = u.read;
  gives = u.gives;
  status_is = u.status_is;
  since = since_then before u.since;
  later = since_then u.later after;
}

-- so does what is said of its kernel
pub kernel_pass : (a : Ask) (first : Notebook) (status : ℕ) (x y z : List Entry) → Since (Spares a.output) y z → HasKernel a first status x y → HasKernel a first status x z
kernel_pass a first status x y z after h = record {
  kernel = λ is. let k = h.kernel is in record {
    at = k.at;
    looked = k.looked;
    end = k.end;
    looks = k.looks;
    status_is = k.status_is;
    since = k.since;
    later = since_then k.later after;
  };
  loaded = h.loaded;
}

pub other_kernel : (a : Ask) (first : Notebook) (status : ℕ) (x y : List Entry) → IsOther status → HasKernel a first status x y
other_kernel a first status x y other = record { kernel = λ is. absurd (other.0 is); loaded = other.1 }

pub unread_twelve : (a : Ask) (status : ℕ) (x : List Entry) → status ≡ 12 → IsUnread a status x x
unread_twelve a status x is = record { end = end.NoMemory; at = x; read = x; gives = not_asked; status_is = inr is; since = start; later = start }

pub twelve_other : (status : ℕ) → status ≡ 12 → IsOther status
twelve_other status is = subst IsOther (sym is) (λ e. absurd (cc), λ e. absurd (cc))

load_not_zero : (f : LoadFault) → 0 ≡ status_of (end.NotLoaded f) → ⊥
load_not_zero (load.NotJson f) e = absurd (cc)
load_not_zero (load.NotNotebook f) e = absurd (cc)
load_not_zero (load.NoTranslator language) e = absurd (cc)
load_not_zero load.NoMemory e = absurd (cc)

none_not_zero : (a : Ask) (x y : List Entry) (e : End) → GivesNone a x e y → 0 ≡ status_of e → ⊥
none_not_zero a x y _ not_read e = absurd (cc)
none_not_zero a x y _ too_large e = absurd (cc)
none_not_zero a x y _ (refused bytes f why) e = load_not_zero f e
none_not_zero a x y _ (no_memory answer) e = absurd (cc)
none_not_zero a x y _ not_asked e = absurd (cc)

-- such a status isn't 0
pub unread_not_zero : (a : Ask) (x y : List Entry) → IsUnread a 0 x y → ⊥
unread_not_zero a x y u = elim u.status_is [
  | inl is ↦ none_not_zero a u.at u.read u.end u.gives is
  | inr is ↦ absurd (cc)
]
