-- The status of a run that executes comes only where the count of the calls that it tells of rose.
use Rattle.std.proofs.Common.{◌≡◌, ◌⊎◌, inl, inr, ℕ, suc, ◌<◌, ◌≤◌, ◌+◌, Bool, true, false, not, List, [], ◌∷◌, length, Some, refl, sym, ◌∙◌, subst, arith}
use Rattle.std.specs.Prelude.{◌==◌, find, slice_get, if◌then◌else◌}
use Rattle.std.proofs.Math.Logic.{∥∥₁_elim}
use Rattle.std.proofs.lemmas.Option.{slice_get_within}
use Rattle.world.specs.Counts.{Counts, CountsGrow, Rose}
use Rattle.world.proofs.CountsLemmas.{rose_since, rose_still}
use Rattle.words.specs.declared.ask.Ask.{Ask}
use Rattle.nb_load.specs.declared.load_fault.LoadFault.TheVariants as load
use Rattle.job_end.specs.declared.answer.Answer.{Answer}
use Rattle.job_end.specs.declared.end.End.{End}
use Rattle.job_end.specs.declared.end.End.TheVariants as end
use Rattle.job_end.specs.Answers.{Answers as AnswersTo, said, starved}
use Rattle.job_end.specs.Statuses.{status_of}
use Rattle.job_saves.specs.Speaking.{IsAnswer}
use Rattle.job_begin.specs.Causes.{HasCause}
use Rattle.job_begin.proofs.CauseLemmas.{other}
use Rattle.batch_run.specs.Batch.{AreEnds, EndSpent, HasWaited}
use Rattle.nbrun_top.specs.declared.end.End.{End as Last}
use Rattle.nbrun_top.specs.declared.end.End.TheVariants as last
use Rattle.nbrun_top.specs.Codes.{code_of, is_plain}
use Rattle.nbrun_top.specs.Ended.{Answers, plain, not_said}
use Rattle.nbrun_top.specs.Executed.{IsCounted, IsEndOfFile, first_fault}
use Rattle.nbrun_top.proofs.Statuses.{status_in}
use Rattle.jtext.proofs.Lists.{some_at}

-- ---- the first job that fails

-- the status is 0, or that of one of the answers
abbrev In : List Answer → ℕ → Type 0
In answers n = (n ≡ 0) ⊎ ((i : ℕ) × ((x : Answer) × ((slice_get answers i ≡ Some x) × (n ≡ x.status))))

first_step : (b : Bool) (x : Answer) (rest : List Answer) → In rest (first_fault rest) → In (x ∷ rest) (status_in (if not b then Some x else find (λ (a : Answer). not (a.status == 0)) rest))
first_step false x rest h = inr (0, (x, (refl, refl)))
first_step true x rest (inl e) = inl e
first_step true x rest (inr (i, (y, (at, is)))) = inr (suc i, (y, (at, is)))

first_in : (answers : List Answer) → In answers (first_fault answers)
first_in [] = inl refl
first_in (x ∷ rest) = first_step (x.status == 0) x rest (first_in rest)

-- ---- no job answers as a run whose lines were not said

never_eleven : (e : End) → status_of e ≡ 11 → ⊥
never_eleven end.Done is = absurd (cc)
never_eleven (end.CellError cell name) is = absurd (cc)
never_eleven (end.NotRead path) is = absurd (cc)
never_eleven end.TooLarge is = absurd (cc)
never_eleven (end.NotLoaded (load.NotJson f)) is = absurd (cc)
never_eleven (end.NotLoaded (load.NotNotebook f)) is = absurd (cc)
never_eleven (end.NotLoaded (load.NoTranslator language)) is = absurd (cc)
never_eleven (end.NotLoaded load.NoMemory) is = absurd (cc)
never_eleven end.NoKernelName is = absurd (cc)
never_eleven end.BadKernelName is = absurd (cc)
never_eleven (end.BadSpec f) is = absurd (cc)
never_eleven end.NotStarted is = absurd (cc)
never_eleven end.NotReady is = absurd (cc)
never_eleven end.KernelLost is = absurd (cc)
never_eleven (end.TimedOut cell) is = absurd (cc)
never_eleven (end.NotSaved f) is = absurd (cc)
never_eleven end.NoConnectionFile is = absurd (cc)
never_eleven end.NoMemory is = absurd (cc)
never_eleven (end.NoIdle cell) is = absurd (cc)
never_eleven end.NetFault is = absurd (cc)
never_eleven (end.BadPeer chan f) is = absurd (cc)
never_eleven end.Spent is = absurd (cc)

eleven_of : (output : List ℕ) (e : End) (a : Answer) → AnswersTo output e a → a.status ≡ 11 → ⊥
eleven_of output e _ said is = never_eleven e is
eleven_of output e _ starved is = absurd (cc)

no_eleven : (output : List ℕ) (a : Answer) → IsAnswer output a → a.status ≡ 11 → ⊥
no_eleven output a h is = ∥∥₁_elim h (λ x y. absurd x) (λ e. eleven_of output e.end a e.answers is)

-- ---- the status of the jobs

module _ (asks : List Ask) (answers : List Answer) (old new : Counts) (one_each : length answers ≡ length asks) (ends : AreEnds asks old new answers) where
  has_cause : (n : ℕ) → In answers n → HasCause old new n
  has_cause n (inl e) = subst (HasCause old new) (sym e) (other old new 0 refl)
  has_cause n (inr (i, (x, (at, is)))) =
      let within : i < length answers = slice_get_within answers i x at in
      let a = some_at asks i (subst (λ m. i < m) one_each within) in
      subst (HasCause old new) (sym is) (ends i a.0 x a.1 at).cause

  not_eleven : (n : ℕ) → In answers n → n ≡ 11 → ⊥
  not_eleven n (inl e) is = let wrong : 0 ≡ 11 = sym e ∙ is in absurd (cc)
  not_eleven n (inr (i, (x, (at, same)))) is =
      let within : i < length answers = slice_get_within answers i x at in
      let a = some_at asks i (subst (λ m. i < m) one_each within) in
      no_eleven a.0.output x (ends i a.0 x a.1 at).is (sym same ∙ is)

  all_waited : (turns : ℕ) → EndSpent turns old new answers → (n : ℕ) → In answers n → n ≡ 16 → HasWaited (old.waits + turns) new
  all_waited turns spent n (inl e) is = let wrong : 0 ≡ 16 = sym e ∙ is in absurd (cc)
  all_waited turns spent n (inr (i, (x, (at, same)))) is = spent i x at (sym same ∙ is)

-- a status that tells of no call
quiet_counted : (turns : ℕ) (old new : Counts) (n : ℕ) → HasCause old new n → (n ≡ 11 → ⊥) → (n ≡ 16 → ⊥) → IsCounted turns old new n
quiet_counted turns old new n cause heard waits = record { cause = cause; say = λ e. absurd (heard e); spent = λ e. absurd (waits e) }

counted_by : (turns : ℕ) (old new : Counts) (n code : ℕ) → Answers (Rose old.say new.say) n code → HasCause old new n → (n ≡ 11 → ⊥)
    → (n ≡ 16 → HasWaited (old.waits + turns) new) → IsCounted turns old new code
counted_by turns old new n _ (plain heard) cause never spent = record { cause = cause; say = λ e. absurd (never e); spent = spent }
counted_by turns old new _ _ (not_said f) cause never spent = record { cause = other old new 11 refl; say = λ e. f; spent = λ e. absurd (cc) }

pub jobs_counted : (turns : ℕ) (asks : List Ask) (answers : List Answer) (old new : Counts) (code : ℕ) → length answers ≡ length asks → AreEnds asks old new answers
    → EndSpent turns old new answers → Answers (Rose old.say new.say) (first_fault answers) code → IsCounted turns old new code
jobs_counted turns asks answers old new code one_each ends spent status =
    let first = first_in answers in
    counted_by turns old new (first_fault answers) code status (has_cause asks answers old new one_each ends (first_fault answers) first)
    (not_eleven asks answers old new one_each ends (first_fault answers) first) (all_waited asks answers old new one_each ends turns spent (first_fault answers) first)

-- ---- a run that has no jobs

pub starved_counted : (turns : ℕ) (old new : Counts) (code : ℕ) → code ≡ 12 → IsCounted turns old new code
starved_counted turns old new code is =
    subst (IsCounted turns old new) (sym is) (quiet_counted turns old new 12 (other old new 12 refl) (λ e. absurd (cc)) (λ e. absurd (cc)))

read_counted : (turns : ℕ) (old new : Counts) → Rose old.disk new.disk → IsCounted turns old new 3
read_counted turns old new rose =
    quiet_counted turns old new 3 (record { read = λ e. rose; start = λ e. absurd (cc); save = λ e. absurd (cc); net = λ e. absurd (cc) }) (λ e. absurd (cc)) (λ e. absurd (cc))

file_counted : (turns : ℕ) (old new : Counts) (e : Last) → IsEndOfFile e → (e ≡ last.NotRead → Rose old.disk new.disk) → IsCounted turns old new (code_of e)
file_counted turns old new (last.Done cells) is read = absurd is
file_counted turns old new (last.Refused u) is read = quiet_counted turns old new 2 (other old new 2 refl) (λ e. absurd (cc)) (λ e. absurd (cc))
file_counted turns old new last.NotRead is read = read_counted turns old new (read refl)
file_counted turns old new last.TooLarge is read = absurd is
file_counted turns old new (last.NotLoaded f) is read = absurd is
file_counted turns old new (last.NotSaved f) is read = absurd is
file_counted turns old new last.NoMemory is read = starved_counted turns old new 12 refl

pub unread_counted : (turns : ℕ) (old mid new : Counts) (e : Last) (code : ℕ) → code ≡ code_of e → IsEndOfFile e → (e ≡ last.NotRead → Rose old.disk mid.disk) → CountsGrow mid new
    → IsCounted turns old new code
unread_counted turns old mid new e code is kind read grow =
    subst (IsCounted turns old new) (sym is) (file_counted turns old new e kind (λ f. rose_still old.disk mid.disk new.disk (read f) grow.disk))

-- ---- since an earlier moment

waited_since : (turns : ℕ) (old mid new : Counts) → old.waits ≤ mid.waits → HasWaited (mid.waits + turns) new → HasWaited (old.waits + turns) new
waited_since turns old mid new more waited = grind (arith, more, waited)

pub counted_since : (turns : ℕ) (old mid new : Counts) (code : ℕ) → CountsGrow old mid → IsCounted turns mid new code → IsCounted turns old new code
counted_since turns old mid new code g h = record {
  cause = record {
    read = λ e. rose_since old.disk mid.disk new.disk g.disk (h.cause.read e);
    start = λ e. elim (h.cause.start e) [
      | inl r ↦ inl (rose_since old.rand mid.rand new.rand g.rand r)
      | inr r ↦ inr (rose_since old.child mid.child new.child g.child r)
    ];
    save = λ e. rose_since old.disk mid.disk new.disk g.disk (h.cause.save e);
    net = λ e. rose_since old.net mid.net new.net g.net (h.cause.net e);
  };
  say = λ e. rose_since old.say mid.say new.say g.say (h.say e);
  spent = λ e. waited_since turns old mid new g.waits (h.spent e);
}

-- ---- a run that executes nothing

code_plain : (e : Last) → is_plain (code_of e) ≡ true
code_plain (last.Done cells) = refl
code_plain (last.Refused u) = refl
code_plain last.NotRead = refl
code_plain last.TooLarge = refl
code_plain (last.NotLoaded (load.NotJson f)) = refl
code_plain (last.NotLoaded (load.NotNotebook f)) = refl
code_plain (last.NotLoaded (load.NoTranslator language)) = refl
code_plain (last.NotLoaded load.NoMemory) = refl
code_plain (last.NotSaved f) = refl
code_plain last.NoMemory = refl

answered_plain : (rose : Type 0) (n code : ℕ) → Answers rose n code → is_plain n ≡ true → is_plain code ≡ true
answered_plain rose n _ (plain heard) h = h
answered_plain rose _ _ (not_said f) h = refl

pub plain_status : (e : Last) (rose : Type 0) (coded code : ℕ) → coded ≡ code_of e → Answers rose coded code → is_plain code ≡ true
plain_status e rose coded code is answers = answered_plain rose coded code answers (subst (λ n. is_plain n ≡ true) (sym is) (code_plain e))

-- so no other status comes
pub never_plain : (n code : ℕ) → is_plain n ≡ false → is_plain code ≡ true → code ≡ n → ⊥
never_plain n code other is same = let wrong : false ≡ true = sym other ∙ subst (λ m. is_plain m ≡ true) same is in absurd (cc)
