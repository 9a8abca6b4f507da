-- An act of the core is done, behind the saves that it asked for before.
use Rattle.std.proofs.Common.{◌≡◌, ◌+◌, inl, inr, ℕ, Bool, true, false, ◌&&◌, not, List, [], ◌∷◌, ◌++◌, Result, Ok, Err, refl, sym, ◌∙◌, ap, subst}
use Rattle.std.specs.Prelude.{Option, Some, None, IfSome, IsSomeAnd, OnOk, is_some}
use Rattle.std.proofs.Math.Logic.{∥∥₁_elim}
use Rattle.std.specs.Result.{IsErrAnd}
use Rattle.std.proofs.Math.Bool.{Bool-set, true≢false}
use Rattle.world.specs.declared.entry.Entry.{Entry}
use Rattle.world.specs.Moments.{Told}
use Rattle.cell_core.specs.declared.act.Act.{Act}
use Rattle.cell_core.specs.declared.act.Act.TheVariants.{Nothing, Start, Send, Look, Interrupt, Save, Stop}
use Rattle.cell_core.specs.declared.event.Event.TheVariants.{Saved}
use Rattle.cell_core.specs.declared.why.Why.{Why}
use Rattle.cell_core.specs.declared.event.Event.{Event}
use Rattle.cell_core.specs.declared.machine.Core.{Core}
use Rattle.cell_core.specs.Acts.{IsTimely, act_of, has_stopped, heard, is_empty}
use Rattle.cell_core.specs.Answering.{can_answer}
use Rattle.cell_core.specs.Saves.{pending_saves, why}
use Rattle.cell_core.specs.StandsFor.{StandsFor, awaits_saved_of, task_of}
use Rattle.cell_core.proofs.Answering.{answers_kind}
use Rattle.job_end.specs.declared.end.End.{End}
use Rattle.job_end.specs.declared.end.End.TheVariants.{NoMemory}
use Rattle.run_journal.specs.Requests.{requests}
use Rattle.job_journal.specs.Plot.{Plot, facts}
use Rattle.job_run.specs.Told.{Hears}
use Rattle.job_run.specs.declared.execution.Execution.{Execution}
use Rattle.job_run.specs.Standing.{DoesAct, EndsSo, IsToSendCell, IsToStop, MovesOn, Stands, StandsOrEnds, StandsTo, StandsToOrEnds, StaysStill, is_idle}
use Rattle.job_run.specs.Stopping.{IsStopBy}
use Rattle.job_run.proofs.EndLemmas.{starved_so, stop_so, stopped_ended}
use Rattle.job_run.proofs.StandingLemmas.{ended_so}

-- there is something to do for a save
pub busy_save : {act : Act} {n : ℕ} → is_idle act ≡ true → act ≡ Save n → ⊥
busy_save idle e = true≢false (sym idle ∙ ap is_idle e)

moves : {U : Type 0} (x y z : Execution) (r : Result U End) → y.sent ≡ x.sent → OnOk r (MovesOn y z) → OnOk r (MovesOn x z)
moves x y z (Err e) same m = tt
moves x y z (Ok u) same (inl none) = inl none
moves x y z (Ok u) same (inr one) = inr (one ∙ ap (λ n. n + 1) same)

-- the last act is done where the first one was due
pub acts_on : {U : Type 0} (p : Plot) (number : ℕ) (x y z : Execution) (first last : Act) (r : Result U End) (before after : List Entry)
    → (StandsTo p number x first before → StandsTo p number y last after) → y.sent ≡ x.sent → (can_answer Saved first ≡ true → can_answer Saved last ≡ true)
    → DoesAct p number y last z r after after → DoesAct p number x first z r before after
acts_on p number x y z first last r before after stands same kind does t =
    let d = does (stands t) in
    (d.0, λ e. moves x y z r same (d.1 (kind e)))

-- the job has ended by a save before it
pub ended_does : {U : Type 0} (p : Plot) (number : ℕ) (x y z : Execution) (act : Act) (r : Result U End) (e : End) (before after : List Entry) → IsErrAnd r (λ k. k ≡ e)
    → StandsToOrEnds p number y (Err e) after → DoesAct p number x act z r before after
ended_does p number x y z act (Ok u) e before after is h t = absurd is
ended_does p number x y z act (Err k) e before after is h t = (subst (λ (v : End). EndsSo p v after) (sym is) h, λ s. tt)

-- nothing was done before, and nothing was then
pub stays_from : {U : Type 0} (x y z : Execution) (r : Result U End) → y ≡ x → StaysStill y z r → StaysStill x z r
stays_from x y z r same s = record { same = s.same ∙ same; no_end = s.no_end }

-- ---- an act that is no save

-- the kernel is started or looked at, or nothing is done
pub does_nothing : (p : Plot) (number : ℕ) (x : Execution) (now : List Entry) → DoesAct {U = Unit {0}} p number x Nothing x (Ok tt) now now
does_nothing p number x now t = (t, λ e. absurd (true≢false (sym e)))

pub does_look : (p : Plot) (number : ℕ) (x : Execution) (now : List Entry) → DoesAct {U = Unit {0}} p number x Look x (Ok tt) now now
does_look p number x now t = (t, λ e. absurd (true≢false (sym e)))

pub does_start : (p : Plot) (number : ℕ) (x : Execution) (now : List Entry) → DoesAct {U = Unit {0}} p number x Start x (Ok tt) now now
does_start p number x now t = (t.0, λ e. inl t.1)

-- the job is stopped
pub does_stop : (p : Plot) (number : ℕ) (x : Execution) (cause : Why) (e : End) (now : List Entry) → IsStopBy cause x.request x.broken e
    → DoesAct {U = Unit {0}} p number x (Stop cause) x (Err e) now now
does_stop p number x cause e now is t = (stop_so p x now cause e t is, λ s. tt)

-- or memory is wanted for its end
pub starved_stop : {U : Type 0} (p : Plot) (number : ℕ) (x y : Execution) (cause : Why) (r : Result U End) (now : List Entry) → IsErrAnd r (λ k. k ≡ NoMemory)
    → IsToStop p x cause now → StandsOrEnds p number y r now
starved_stop p number x y cause r now is t = ended_so p number y r NoMemory now is (starved_so p now (stopped_ended p cause now t.stopped))

pub starves_stop : {U : Type 0} (p : Plot) (number : ℕ) (x y : Execution) (cause : Why) (r : Result U End) (now : List Entry) → IsErrAnd r (λ k. k ≡ NoMemory)
    → DoesAct p number x (Stop cause) y r now now
starves_stop p number x y cause (Ok u) now is t = absurd is
starves_stop {U} p number x y cause (Err k) now is t = (starved_stop {U = U} p number x y cause (Err k) now is t, λ s. tt)

-- ---- where an act is nothing, no call was made

while_at : (i j : Option (List Entry)) (R : List Entry → List Entry → Type 0) (P : Type 0) → (P → j ≡ i) → IfSome j (λ y. IsSomeAnd i (λ x. R x y))
    → IfSome j (λ y. IsSomeAnd i (λ x. R x y × (P → y ≡ x)))
while_at i None R P same r = tt
while_at None (Some y) R P same r = absurd r
while_at (Some x) (Some y) R P same r = (r, λ h. some_is x y (same h))
  where
    some_is : (x y : List Entry) → Some y ≡ Some x → y ≡ x
    some_is x y e = cc

pub told_while : {i j : Option (List Entry)} {R : List Entry → List Entry → Type 0} (P : Type 0) → Told i j R → (P → j ≡ i) → Told i j (λ x y. R x y × (P → y ≡ x))
told_while {i} {j} {R} P t same = record { so = while_at i j R P same t.so }

-- ---- what answers an acknowledgement

unsaved : (b d : Bool) → not d ≡ true → (b && d) ≡ false
unsaved true true e = absurd (true≢false (sym e))
unsaved true false e = refl
unsaved false d e = refl

-- while a save is awaited the job hasn't stopped
still_going : (core : Core) (events : List Event) → StandsFor core events → awaits_saved_of core ≡ true → has_stopped (task_of core) (heard (task_of core) events) ≡ false
still_going core events s awaited =
    let now : List Event = heard (task_of core) events in
    unsaved (is_some (why (task_of core) now)) (is_empty (pending_saves (task_of core) now)) (sym s.awaited ∙ awaited)

pub kind_saved : (core : Core) (clock : ℕ) (is_named : Bool) (answer : Act) → awaits_saved_of core ≡ true
    → ((events : List Event) → StandsFor core events → IsTimely (task_of core) Saved events → answer ≡ act_of (task_of core) Saved events) → Hears core clock is_named
    → can_answer Saved answer ≡ true
kind_saved core clock is_named answer awaited acts h = ∥∥₁_elim h (Bool-set (can_answer Saved answer) true) (λ t.
    subst (λ (act : Act). can_answer Saved act ≡ true) (sym (acts t.events t.stands tt))
    (answers_kind (task_of core) core.clock core.lost core.state Saved t.events t.stands.so (sym awaited) tt (still_going core t.events t.stands awaited) core.later))

-- ---- where no request stands by the journal

not_one : {A : Type 0} (earlier : List A) (r : A) → [] ≡ earlier ++ r ∷ [] → ⊥
not_one [] r e = absurd (cc)
not_one (x ∷ xs) r e = absurd (cc)

-- none is to be sent
pub none_to_send : (p : Plot) (number : ℕ) (x : Execution) (cell : ℕ) (now : List Entry) → requests (facts p) now ≡ [] → IsToSendCell p number x cell now → ⊥
none_to_send p number x cell now none t = not_one t.parts.earlier t.parts.newest (sym none ∙ t.parts.next.stands)

-- an act for which there is nothing to do
pub idle_stands : (p : Plot) (number : ℕ) (x : Execution) (act : Act) (now : List Entry) → is_idle act ≡ true → StandsTo p number x act now → Stands p number x now
idle_stands p number x Nothing now q s = s
idle_stands p number x Start now q s = s.0
idle_stands p number x Look now q s = s
idle_stands p number x (Send cell) now q s = absurd (true≢false (sym q))
idle_stands p number x Interrupt now q s = absurd (true≢false (sym q))
idle_stands p number x (Save n) now q s = absurd (true≢false (sym q))
idle_stands p number x (Stop cause) now q s = absurd (true≢false (sym q))
