-- What the status of a job says of its saves.
use Rattle.std.proofs.Common.{◌≡◌, inl, inr, ℕ, ◌==◌, ◌||◌, Bool, true, false, List, Option, Some, None, Result, Ok, Err, refl, sym, ap, subst, ◌∙◌}
use Rattle.std.specs.Prelude.{IfErr}
use Rattle.nb_load.specs.declared.load_fault.LoadFault.{LoadFault}
use Rattle.nb_load.specs.declared.load_fault.LoadFault.TheVariants as load
use Rattle.cell_core.specs.Task.{Task}
use Rattle.job_end.specs.declared.answer.Answer.{Answer}
use Rattle.job_end.specs.declared.end.End.{End}
use Rattle.job_end.specs.declared.end.End.TheVariants as end
use Rattle.job_end.specs.Answers.{Answers, said, starved}
use Rattle.job_end.specs.Statuses.{status_of}
use Rattle.job_saves.specs.Course.{keeps_open, IsEndOfRun}
use Rattle.job_run.specs.Run.{IsUnsaved, IsFileStatus}
use Rattle.job_run.specs.Told.{EndsBy}

-- another status
neither : {A : Type 0} (n : ℕ) → ((n == 3) || (n == 10)) ≡ false → IsFileStatus n → A
neither n other (inl e) = let no : true ≡ false = subst (λ m. ((m == 3) || (m == 10)) ≡ false) e other in absurd (cc)
neither n other (inr e) = let no : true ≡ false = subst (λ m. ((m == 3) || (m == 10)) ≡ false) e other in absurd (cc)

unsaved_end : (e : End) → keeps_open e ≡ false → status_of e ≡ 10
unsaved_end (end.NotSaved f) h = refl
unsaved_end _ h = absurd (cc)

pub shut_by : (output : List ℕ) (e : End) (a : Answer) → Answers output e a → keeps_open e ≡ false → IsUnsaved a.status
shut_by output e _ said shut = inl (unsaved_end e shut)
shut_by output e _ starved shut = inr refl

failed_end : (e : End) → IsEndOfRun e → IsFileStatus (status_of e) → keeps_open e ≡ false
failed_end (end.NotSaved f) own h = refl
failed_end end.Done own h = neither 0 refl h
failed_end (end.CellError cell name) own h = neither 1 refl h
failed_end (end.NotRead path) own h = absurd own
failed_end end.TooLarge own h = absurd own
failed_end (end.NotLoaded f) own h = absurd own
failed_end end.NoKernelName own h = absurd own
failed_end end.BadKernelName own h = absurd own
failed_end (end.BadSpec f) own h = absurd own
failed_end end.NotStarted own h = absurd own
failed_end end.NotReady own h = neither 7 refl h
failed_end end.KernelLost own h = neither 8 refl h
failed_end (end.TimedOut cell) own h = neither 9 refl h
failed_end end.NoConnectionFile own h = absurd own
failed_end end.NoMemory own h = neither 12 refl h
failed_end (end.NoIdle cell) own h = neither 13 refl h
failed_end end.NetFault own h = neither 14 refl h
failed_end (end.BadPeer chan f) own h = neither 15 refl h
failed_end end.Spent own h = neither 16 refl h

pub fails_by : (output : List ℕ) (e : End) (a : Answer) → Answers output e a → IsEndOfRun e → IsFileStatus a.status → keeps_open e ≡ false
fails_by output e _ said own h = failed_end e own h
fails_by output e _ starved own h = neither 12 refl h

pub starved_shut : (a : Answer) → a.status ≡ 12 → IsUnsaved a.status
starved_shut a is = inr is

pub starved_fails : (a : Answer) → a.status ≡ 12 → IsFileStatus a.status → ⊥
starved_fails a is h = neither 12 refl (subst IsFileStatus is h)

-- ---- the ends from outside

-- another number
differs : {A : Type 0} (test : ℕ → Bool) (m n : ℕ) → test n ≡ true → test m ≡ false → m ≡ n → A
differs test m n is_one is_none e = let both : true ≡ false = sym is_one ∙ subst (λ k. test k ≡ false) e is_none in absurd (cc)

not_loaded : {A : Type 0} (test : ℕ → Bool) (n : ℕ) (f : LoadFault) → test n ≡ true → test 4 ≡ false → test 5 ≡ false → test 12 ≡ false → status_of (end.NotLoaded f) ≡ n → A
not_loaded test n (load.NotJson f) is_one four five twelve h = differs test 4 n is_one four h
not_loaded test n (load.NotNotebook f) is_one four five twelve h = differs test 4 n is_one four h
not_loaded test n (load.NoTranslator language) is_one four five twelve h = differs test 5 n is_one five h
not_loaded test n load.NoMemory is_one four five twelve h = differs test 12 n is_one twelve h

lost_end : (e : End) → status_of e ≡ 14 → e ≡ end.NetFault
lost_end end.Done h = differs (λ m. m == 14) 0 14 refl refl h
lost_end (end.CellError cell name) h = differs (λ m. m == 14) 1 14 refl refl h
lost_end (end.NotRead path) h = differs (λ m. m == 14) 3 14 refl refl h
lost_end end.TooLarge h = differs (λ m. m == 14) 4 14 refl refl h
lost_end (end.NotLoaded f) h = not_loaded (λ m. m == 14) 14 f refl refl refl refl h
lost_end end.NoKernelName h = differs (λ m. m == 14) 5 14 refl refl h
lost_end end.BadKernelName h = differs (λ m. m == 14) 5 14 refl refl h
lost_end (end.BadSpec f) h = differs (λ m. m == 14) 5 14 refl refl h
lost_end end.NotStarted h = differs (λ m. m == 14) 6 14 refl refl h
lost_end end.NotReady h = differs (λ m. m == 14) 7 14 refl refl h
lost_end end.KernelLost h = differs (λ m. m == 14) 8 14 refl refl h
lost_end (end.TimedOut cell) h = differs (λ m. m == 14) 9 14 refl refl h
lost_end (end.NotSaved f) h = differs (λ m. m == 14) 10 14 refl refl h
lost_end end.NoConnectionFile h = differs (λ m. m == 14) 10 14 refl refl h
lost_end end.NoMemory h = differs (λ m. m == 14) 12 14 refl refl h
lost_end (end.NoIdle cell) h = differs (λ m. m == 14) 13 14 refl refl h
lost_end end.NetFault h = refl
lost_end (end.BadPeer chan f) h = differs (λ m. m == 14) 15 14 refl refl h
lost_end end.Spent h = differs (λ m. m == 14) 16 14 refl refl h

-- the network ends a job with the status of that alone
pub lost_by : (output : List ℕ) (e : End) (a : Answer) → Answers output e a → a.status ≡ 14 → e ≡ end.NetFault
lost_by output e _ said h = lost_end e h
lost_by output e _ starved h = differs (λ m. m == 14) 12 14 refl refl h

pub starved_lost : (a : Answer) → a.status ≡ 12 → a.status ≡ 14 → ⊥
starved_lost a is h = differs (λ m. m == 14) 12 14 refl refl (sym is ∙ h)

spent_end : (e : End) → status_of e ≡ 16 → e ≡ end.Spent
spent_end end.Done h = differs (λ m. m == 16) 0 16 refl refl h
spent_end (end.CellError cell name) h = differs (λ m. m == 16) 1 16 refl refl h
spent_end (end.NotRead path) h = differs (λ m. m == 16) 3 16 refl refl h
spent_end end.TooLarge h = differs (λ m. m == 16) 4 16 refl refl h
spent_end (end.NotLoaded f) h = not_loaded (λ m. m == 16) 16 f refl refl refl refl h
spent_end end.NoKernelName h = differs (λ m. m == 16) 5 16 refl refl h
spent_end end.BadKernelName h = differs (λ m. m == 16) 5 16 refl refl h
spent_end (end.BadSpec f) h = differs (λ m. m == 16) 5 16 refl refl h
spent_end end.NotStarted h = differs (λ m. m == 16) 6 16 refl refl h
spent_end end.NotReady h = differs (λ m. m == 16) 7 16 refl refl h
spent_end end.KernelLost h = differs (λ m. m == 16) 8 16 refl refl h
spent_end (end.TimedOut cell) h = differs (λ m. m == 16) 9 16 refl refl h
spent_end (end.NotSaved f) h = differs (λ m. m == 16) 10 16 refl refl h
spent_end end.NoConnectionFile h = differs (λ m. m == 16) 10 16 refl refl h
spent_end end.NoMemory h = differs (λ m. m == 16) 12 16 refl refl h
spent_end (end.NoIdle cell) h = differs (λ m. m == 16) 13 16 refl refl h
spent_end end.NetFault h = differs (λ m. m == 16) 14 16 refl refl h
spent_end (end.BadPeer chan f) h = differs (λ m. m == 16) 15 16 refl refl h
spent_end end.Spent h = refl

-- the budget of turns ends it so alone
pub spent_by : (output : List ℕ) (e : End) (a : Answer) → Answers output e a → a.status ≡ 16 → e ≡ end.Spent
spent_by output e _ said h = spent_end e h
spent_by output e _ starved h = differs (λ m. m == 16) 12 16 refl refl h

pub starved_spent : (a : Answer) → a.status ≡ 12 → a.status ≡ 16 → ⊥
starved_spent a is h = differs (λ m. m == 16) 12 16 refl refl (sym is ∙ h)

abbrev end_in : End → Result (Unit {0}) End → End
end_in other (Ok u) = other
end_in other (Err e) = e

pub err_same : (r : Result (Unit {0}) End) (e f : End) → r ≡ Err e → r ≡ Err f → e ≡ f
err_same r e f is at = ap (end_in e) (sym is ∙ at)

-- what a run ends by itself is neither
pub not_lost : {A : Type 0} (task : Task) (r : Result A End) → IfErr r (EndsBy task) → r ≡ Err end.NetFault → ⊥
not_lost task r own is = subst (λ q. IfErr q (EndsBy task)) is own

pub not_spent : {A : Type 0} (task : Task) (r : Result A End) → IfErr r (EndsBy task) → r ≡ Err end.Spent → ⊥
not_spent task r own is = subst (λ q. IfErr q (EndsBy task)) is own

-- a job has ended with one answer
pub answer_same : (outcome : Option Answer) (a b : Answer) → outcome ≡ Some a → outcome ≡ Some b → a ≡ b
answer_same outcome a b is at = let both : Some a ≡ Some b = sym is ∙ at in cc

pub some_none : (outcome : Option Answer) (a : Answer) → outcome ≡ Some a → outcome ≡ None → ⊥
some_none outcome a is none = let both : Some a ≡ None = sym is ∙ none in absurd (cc)
