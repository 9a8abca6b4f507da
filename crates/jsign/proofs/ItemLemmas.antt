-- Items with their signatures.
use Rattle.std.proofs.Common.{◌≡◌, ℕ, Bool, true, false, cond, List, [], ◌∷◌, ◌++◌, refl, ◌∙◌, ap}
use Rattle.std.specs.List.{Contains, fold}
use Rattle.std.proofs.lemmas.List.Sums.{fold-append}
use Rattle.jsign.specs.History.{recent, is_among, with_offered, fresh_of, IsFresh, signatures_of, with_item, fresh_items}
use Rattle.jsign.proofs.HistoryLemmas.{contained, not_contained}

next_item : {A : Type 0} (offered : List (List ℕ × A)) (item : List ℕ × A) → fresh_items (offered ++ item ∷ []) ≡ with_item (fresh_items offered) item
unfolding fresh_items
next_item offered item = fold-append with_item [] offered (item ∷ [])

signatures-append : {A : Type 0} (xs ys : List (List ℕ × A)) → signatures_of (xs ++ ys) ≡ signatures_of xs ++ signatures_of ys
signatures-append [] ys = refl
signatures-append (x ∷ xs) ys = ap (λ t. x.0 ∷ t) (signatures-append xs ys)

-- from items and signatures that belong together
fold_same : {A : Type 0} (kept offered : List (List ℕ × A)) → signatures_of (fold with_item kept offered) ≡ fold with_offered (signatures_of kept) (signatures_of offered)
fold_same kept [] = refl
fold_same kept (item ∷ offered) = fold_same (with_item kept item) offered ∙ ap (λ k. fold with_offered k (signatures_of offered)) (one_same (is_among item.0 (recent (signatures_of kept))))
  where
    one_same : (b : Bool) → signatures_of (cond b kept (kept ++ item ∷ [])) ≡ cond b (signatures_of kept) (signatures_of kept ++ item.0 ∷ [])
    one_same true = refl
    one_same false = signatures-append kept (item ∷ [])

pub signatures_same : {A : Type 0} (offered : List (List ℕ × A)) → signatures_of (fresh_items offered) ≡ fresh_of (signatures_of offered)
unfolding fresh_items fresh_of
signatures_same offered = fold_same [] offered

among_by : {A : Type 0} (offered : List (List ℕ × A)) (sig : List ℕ) → is_among sig (recent (signatures_of (fresh_items offered))) ≡ is_among sig (recent (fresh_of (signatures_of offered)))
among_by offered sig = ap (λ s. is_among sig (recent s)) (signatures_same offered)

fresh_test : (sigs : List (List ℕ)) (sig : List ℕ) (b : Bool) → is_among sig sigs ≡ b → ¬ (Contains sigs sig) → b ≡ false
fresh_test sigs sig true e h = absurd (h (contained sig sigs e))
fresh_test sigs sig false e h = refl

known_test : (sigs : List (List ℕ)) (sig : List ℕ) (b : Bool) → is_among sig sigs ≡ b → ¬ (¬ (Contains sigs sig)) → b ≡ true
known_test sigs sig true e h = refl
known_test sigs sig false e h = absurd (h (not_contained sig sigs e))

pub item_kept : {A : Type 0} (offered : List (List ℕ × A)) (sig : List ℕ) (item : A) → IsFresh (signatures_of offered) sig → fresh_items (offered ++ (sig, item) ∷ []) ≡ fresh_items offered ++ (sig, item) ∷ []
item_kept offered sig item h =
    let test = among_by offered sig ∙ fresh_test (recent (fresh_of (signatures_of offered))) sig _ refl h in
    next_item offered (sig, item) ∙ ap (λ b. cond b (fresh_items offered) (fresh_items offered ++ (sig, item) ∷ [])) test

pub item_left_out : {A : Type 0} (offered : List (List ℕ × A)) (sig : List ℕ) (item : A) → ¬ (IsFresh (signatures_of offered) sig) → fresh_items (offered ++ (sig, item) ∷ []) ≡ fresh_items offered
item_left_out offered sig item h =
    let test = among_by offered sig ∙ known_test (recent (fresh_of (signatures_of offered))) sig _ refl h in
    next_item offered (sig, item) ∙ ap (λ b. cond b (fresh_items offered) (fresh_items offered ++ (sig, item) ∷ [])) test

pub items_none : {A : Type 0} → fresh_items {A = A} [] ≡ []
unfolding fresh_items
items_none = refl
