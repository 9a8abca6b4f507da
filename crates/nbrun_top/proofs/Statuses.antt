-- The status of a run by the answers of its jobs.
use Rattle.std.proofs.Common.{◌≡◌, ℕ, zero, suc, ◌≤◌, Bool, true, false, not, List, [], ◌∷◌, map, length, Option, Some, None, refl, sym, ◌∙◌, ap, subst, arith}
use Rattle.std.specs.Prelude.{◌==◌, option_map, unwrap_or, slice_get, if◌then◌else◌}
use Rattle.std.proofs.lemmas.Bool.Decides.{Decides-eqb}
use Rattle.world.specs.Counts.{Rose}
use Rattle.words.specs.declared.ask.Ask.{Ask}
use Rattle.job_end.specs.declared.answer.Answer.{Answer}
use Rattle.job_end.specs.Answers.{starved_answer}
use Rattle.nbrun_top.specs.Ended.{Answers}
use Rattle.nbrun_top.specs.Executed.{first_fault}

-- ---- the first job that fails

abbrev pub status_in : Option Answer → ℕ
status_in found = unwrap_or (option_map (λ (a : Answer). a.status) found) 0

-- ---- where memory was refused

abbrev pub all_starved : List Ask → List Answer
all_starved asks = map (λ (a : Ask). starved_answer) asks

pub starved_count : (asks : List Ask) → length (all_starved asks) ≡ length asks
starved_count [] = refl
starved_count (a ∷ rest) = ap suc (starved_count rest)

pub starved_fault : (asks : List Ask) → 1 ≤ length asks → first_fault (all_starved asks) ≡ 12
starved_fault [] some = absurd (omega arith)
starved_fault (a ∷ rest) some = refl

pub starved_at : (asks : List Ask) (i : ℕ) (x : Answer) → slice_get (all_starved asks) i ≡ Some x → x.status ≡ 12
starved_at [] i x is = cc
starved_at (a ∷ rest) zero x is = status_same (sym is)
  where
    status_same : Some x ≡ Some starved_answer → x.status ≡ 12
    status_same e = ap (λ o. status_in o) e
starved_at (a ∷ rest) (suc i) x is = starved_at rest i x is

pub starved_line : (asks : List Ask) (i : ℕ) (x : Answer) → slice_get (all_starved asks) i ≡ Some x → x.line ≡ []
starved_line [] i x is = cc
starved_line (a ∷ rest) zero x is = line_same (sym is)
  where
    line_in : Option Answer → List ℕ
    line_in None = []
    line_in (Some y) = y.line

    line_same : Some x ≡ Some starved_answer → x.line ≡ []
    line_same e = ap line_in e
starved_line (a ∷ rest) (suc i) x is = starved_line rest i x is

pub job_status : (faults old now code given : ℕ) (answers slice : List Answer) → faults ≡ old → code ≡ first_fault slice → slice ≡ answers → Answers (Rose faults now) code given
    → Answers (Rose old now) (first_fault answers) given
job_status faults old now code given answers slice same coded is status =
    subst (λ n. Answers (Rose old now) n given) (coded ∙ ap first_fault is) (subst (λ k. Answers (Rose k now) code given) same status)

-- the one job's, where there is one
first_case : (b : Bool) (x : Answer) → (b ≡ true → x.status ≡ 0) → status_in (if not b then Some x else None) ≡ x.status
first_case true x zero_ = sym (zero_ refl)
first_case false x zero_ = refl

pub one_fault : (x : Answer) → first_fault (x ∷ []) ≡ x.status
one_fault x = first_case (x.status == 0) x (Decides-eqb x.status 0).0
