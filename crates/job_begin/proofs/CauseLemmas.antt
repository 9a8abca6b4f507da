-- The causes of ends, by the counts.
use Rattle.std.proofs.Common.{◌≡◌, ◌⊎◌, ℕ, List, Bool, true, false, Err, Result, Ok, refl, sym, ap, subst, ◌∙◌, arith}
use Rattle.std.specs.Prelude.{◌==◌, ◌||◌, IfErr}
use Rattle.world.specs.Counts.{Counts, CountsGrow, Rose}
use Rattle.world.proofs.CountsLemmas.{rose_since}
use Rattle.nb_load.specs.declared.load_fault.LoadFault.TheVariants as load
use Rattle.job_end.specs.declared.answer.Answer.{Answer}
use Rattle.job_end.specs.declared.end.End.{End}
use Rattle.job_end.specs.declared.end.End.TheVariants as end
use Rattle.job_end.specs.Answers.{Answers, said, starved, starved_answer}
use Rattle.job_end.specs.Statuses.{status_of}
use Rattle.job_saves.specs.Course.{keeps_open}
use Rattle.job_run.specs.Run.{EndCause}
use Rattle.job_run.specs.declared.job.Job.{Job}
use Rattle.job_run.proofs.CauseLemmas.{cause_stays}
use Rattle.job_run.proofs.OutcomeLemmas.{spent_by, starved_spent}
use Rattle.job_begin.specs.Begun.{AnswersAs, IsEndOfSaving, IsOpen}
use Rattle.job_begin.specs.Causes.{HasCause}

-- ---- by the status

-- a status that tells of a failed call
abbrev tells : ℕ → Bool
tells n = n == 3 || n == 6 || n == 10 || n == 14

module _ (old new : Counts) where
  -- any other status
  pub other : (n : ℕ) → tells n ≡ false → HasCause old new n
  other n quiet = record {
    read = λ e. let wrong : true ≡ false = subst (λ m. tells m ≡ false) e quiet in absurd (cc);
    start = λ e. let wrong : true ≡ false = subst (λ m. tells m ≡ false) e quiet in absurd (cc);
    save = λ e. let wrong : true ≡ false = subst (λ m. tells m ≡ false) e quiet in absurd (cc);
    net = λ e. let wrong : true ≡ false = subst (λ m. tells m ≡ false) e quiet in absurd (cc);
  }

  of_read : Rose old.disk new.disk → HasCause old new 3
  of_read rose = record { read = λ e. rose; start = λ e. let wrong : ⊥ = omega (arith, e) in absurd wrong; save = λ e. omega (arith, e); net = λ e. omega (arith, e) }

  of_start : (Rose old.rand new.rand) ⊎ (Rose old.child new.child) → HasCause old new 6
  of_start rose = record { read = λ e. omega (arith, e); start = λ e. rose; save = λ e. omega (arith, e); net = λ e. omega (arith, e) }

  of_save : Rose old.disk new.disk → HasCause old new 10
  of_save rose = record { read = λ e. omega (arith, e); start = λ e. let wrong : ⊥ = omega (arith, e) in absurd wrong; save = λ e. rose; net = λ e. omega (arith, e) }

  of_net : Rose old.net new.net → HasCause old new 14
  of_net rose = record { read = λ e. omega (arith, e); start = λ e. let wrong : ⊥ = omega (arith, e) in absurd wrong; save = λ e. omega (arith, e); net = λ e. rose }

  status_caused : (e : End) → EndCause old new e → (keeps_open e ≡ false → Rose old.disk new.disk) → HasCause old new (status_of e)
  status_caused end.Done h s = other 0 refl
  status_caused (end.CellError cell name) h s = other 1 refl
  status_caused (end.NotRead path) h s = of_read h
  status_caused end.TooLarge h s = other 4 refl
  status_caused (end.NotLoaded (load.NotJson f)) h s = other 4 refl
  status_caused (end.NotLoaded (load.NotNotebook f)) h s = other 4 refl
  status_caused (end.NotLoaded (load.NoTranslator language)) h s = other 5 refl
  status_caused (end.NotLoaded load.NoMemory) h s = other 12 refl
  status_caused end.NoKernelName h s = other 5 refl
  status_caused end.BadKernelName h s = other 5 refl
  status_caused (end.BadSpec f) h s = other 5 refl
  status_caused end.NotStarted h s = of_start h
  status_caused end.NotReady h s = other 7 refl
  status_caused end.KernelLost h s = other 8 refl
  status_caused (end.TimedOut cell) h s = other 9 refl
  status_caused (end.NotSaved f) h s = of_save (s refl)
  status_caused end.NoConnectionFile h s = of_save h
  status_caused end.NoMemory h s = other 12 refl
  status_caused (end.NoIdle cell) h s = other 13 refl
  status_caused end.NetFault h s = of_net h
  status_caused (end.BadPeer chan f) h s = other 15 refl
  status_caused end.Spent h s = absurd h

  -- no begin is out of waits
  pub answer_unspent : (output : List ℕ) (e : End) (answer : Answer) → Answers output e answer → EndCause old new e → answer.status ≡ 16 → ⊥
  answer_unspent output e answer answers h is = subst (EndCause old new) (spent_by output e answer answers is) h

  pub starved_unspent : (answer : Answer) → answer ≡ starved_answer → answer.status ≡ 16 → ⊥
  starved_unspent answer same is = starved_spent answer (ap (λ (a : Answer). a.status) same) is

  pub all_unspent : (output : List ℕ) (begun : Result Job End) (result : Result Job Answer) → AnswersAs output begun result → IfErr begun (EndCause old new)
      → IfErr result (λ answer. answer.status ≡ 16 → ⊥)
  all_unspent output (Ok j) (Ok k) same caused = tt
  all_unspent output (Err e) (Err answer) answers caused = answer_unspent output e answer answers caused
  all_unspent output (Ok j) (Err answer) wrong caused = absurd wrong
  all_unspent output (Err e) (Ok k) wrong caused = absurd wrong

  -- an end of a save, or behind one, has no cause to show here
  pub saving_caused : (e : End) → IsEndOfSaving e → EndCause old new e
  saving_caused end.Done own = tt
  saving_caused (end.CellError cell name) own = tt
  saving_caused (end.NotRead path) own = absurd own
  saving_caused end.TooLarge own = tt
  saving_caused (end.NotLoaded f) own = tt
  saving_caused end.NoKernelName own = tt
  saving_caused end.BadKernelName own = tt
  saving_caused (end.BadSpec f) own = tt
  saving_caused end.NotStarted own = absurd own
  saving_caused end.NotReady own = tt
  saving_caused end.KernelLost own = tt
  saving_caused (end.TimedOut cell) own = tt
  saving_caused (end.NotSaved f) own = tt
  saving_caused end.NoConnectionFile own = absurd own
  saving_caused end.NoMemory own = tt
  saving_caused (end.NoIdle cell) own = tt
  saving_caused end.NetFault own = absurd own
  saving_caused (end.BadPeer chan f) own = tt
  saving_caused end.Spent own = absurd own

  pub answer_caused : (output : List ℕ) (e : End) (answer : Answer) → Answers output e answer → EndCause old new e
      → (keeps_open e ≡ false → Rose old.disk new.disk) → HasCause old new answer.status
  answer_caused output e answer said h s = status_caused e h s
  answer_caused output e answer starved h s = other 12 refl

  pub starved_caused : (answer : Answer) → answer ≡ starved_answer → HasCause old new answer.status
  starved_caused answer is = subst (λ a. HasCause old new a.status) (sym is) (other 12 refl)

  -- by the end of a begin, whose causes were seen from a later moment on
  pub all_caused : (output : List ℕ) (mid : Counts) (begun : Result Job End) (result : Result Job Answer) → AnswersAs output begun result → CountsGrow old mid
      → IfErr begun (EndCause mid new) → ((e : End) → begun ≡ Err e → keeps_open e ≡ false → Rose mid.disk new.disk)
      → IfErr result (λ answer. HasCause old new answer.status)
  all_caused output mid (Ok j) (Ok k) same grow caused rose = tt
  all_caused output mid (Err e) (Err answer) answers grow caused rose =
      answer_caused output e answer answers (cause_stays old mid new e grow caused) (λ shut. rose_since old.disk mid.disk new.disk grow.disk (rose e refl shut))
  all_caused output mid (Ok j) (Err answer) wrong grow caused rose = absurd wrong
  all_caused output mid (Err e) (Ok k) wrong grow caused rose = absurd wrong

  -- by an end without a save
  pub unsaved_caused : (output : List ℕ) (e : End) (answer : Answer) → Answers output e answer → EndCause old new e → IsOpen e → HasCause old new answer.status
  unsaved_caused output e answer answers caused unsaved = answer_caused output e answer answers caused (λ shut. let no : true ≡ false = sym unsaved ∙ shut in absurd (cc))
