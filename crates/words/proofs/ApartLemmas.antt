-- Where no item is the same as an earlier one, none is the same as a later one.
use Rattle.std.proofs.Common.{◌≡◌, Bool, true, false, not, ◌&&◌, ◌||◌, List, [], ◌∷◌, ◌++◌, refl, ap, ◌∙◌}
use Rattle.std.specs.List.{list_any, list_all}
use Rattle.std.proofs.lemmas.List.Folds.{list_any-append}
use Rattle.words.specs.Apart.{are_distinct}

-- none of these items is the same as one of those, or as one of these before it
abbrev pub no_earlier : {A : Type 0} → (A → A → Bool) → List A → List A → Bool
no_earlier same before [] = true
no_earlier same before (x ∷ xs) = not (list_any (same x) before) && no_earlier same (before ++ x ∷ []) xs

abbrev fresh : {A : Type 0} → (A → A → Bool) → List A → List A → Bool
fresh same before xs = list_all (λ y. not (list_any (same y) before)) xs

crossed : (a s f n : Bool) → (not (a || (s || false)) && (f && not n)) ≡ ((not a && f) && not (s || n))
crossed true s f n = refl
crossed false true true n = refl
crossed false true false n = refl
crossed false false f n = refl

regrouped : (a f n p : Bool) → (a && ((f && n) && p)) ≡ ((a && f) && (n && p))
regrouped false f n p = refl
regrouped true false n p = refl
regrouped true true n p = refl

-- one item more before these
fresh_more : {A : Type 0} (same : A → A → Bool) → ((x y : A) → same x y ≡ same y x) → (before : List A) (x : A) (xs : List A)
    → fresh same (before ++ x ∷ []) xs ≡ (fresh same before xs && not (list_any (same x) xs))
fresh_more same flips before x [] = refl
fresh_more same flips before x (y ∷ ys) =
    ap (λ b. not b && fresh same (before ++ x ∷ []) ys) (list_any-append (same y) before (x ∷ []) ∙ ap (λ s. list_any (same y) before || (s || false)) (flips y x))
    ∙ ap (λ f. not (list_any (same y) before || (same x y || false)) && f) (fresh_more same flips before x ys)
    ∙ crossed (list_any (same y) before) (same x y) (fresh same before ys) (list_any (same x) ys)

no_earlier_is : {A : Type 0} (same : A → A → Bool) → ((x y : A) → same x y ≡ same y x) → (before xs : List A)
    → no_earlier same before xs ≡ (fresh same before xs && are_distinct same xs)
no_earlier_is same flips before [] = refl
no_earlier_is same flips before (x ∷ xs) =
    ap (λ b. not (list_any (same x) before) && b)
    (no_earlier_is same flips (before ++ x ∷ []) xs ∙ ap (λ f. f && are_distinct same xs) (fresh_more same flips before x xs))
    ∙ regrouped (not (list_any (same x) before)) (fresh same before xs) (not (list_any (same x) xs)) (are_distinct same xs)

all_fresh : {A : Type 0} (same : A → A → Bool) (xs : List A) → fresh same [] xs ≡ true
all_fresh same [] = refl
all_fresh same (x ∷ xs) = all_fresh same xs

-- a whole list, seen from its end and from its front
pub no_earlier_apart : {A : Type 0} (same : A → A → Bool) → ((x y : A) → same x y ≡ same y x) → (xs : List A) → no_earlier same [] xs ≡ are_distinct same xs
no_earlier_apart same flips xs = no_earlier_is same flips [] xs ∙ ap (λ f. f && are_distinct same xs) (all_fresh same xs)
