-- What a world of an exercise is opened with.
use Rattle.std.proofs.Common.{◌≡◌, ◌≤◌, ℕ, List, [], ◌∷◌, ◌++◌, subst, sym, arith, Result, Ok, Err}
use Rattle.std.specs.Prelude.{IfOk, All}
use Rattle.std.proofs.lemmas.List.Elements.{All-nil, All-cons}
use Rattle.toy_core.specs.declared.toy.Toy.{Toy}
use Rattle.toy_core.specs.Toy as toy
use Rattle.nbrun_top.specs.Exercise.{IsEarly}

-- one item was added to none
pub one_item : {A : Type 0} (new old : List A) (x : A) → new ≡ old ++ x ∷ [] → old ≡ [] → new ≡ x ∷ []
one_item new old x added none = subst (λ o. new ≡ o ++ x ∷ []) none added

-- no kernel is ahead of a clock
pub all_behind : (kernels : List Toy) (ms : ℕ) → IsEarly kernels → All (λ k. toy.latest_of k ≤ ms) kernels
all_behind kernels ms e =
    subst (All (λ k. toy.latest_of k ≤ ms)) (sym e.one)
    (All-cons (λ k. toy.latest_of k ≤ ms) e.kernel [] (omega (arith, e.early)) (All-nil (λ k. toy.latest_of k ≤ ms)))

-- what follows of an answer
pub if_ok : {A E : Type 0} (P Q : A → Type 0) (r : Result A E) → ((a : A) → P a → Q a) → IfOk r P → IfOk r Q
if_ok P Q (Ok a) turns p = turns a p
if_ok P Q (Err e) turns p = tt
