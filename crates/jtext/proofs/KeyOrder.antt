-- Sorting keys with the places of their pairs gives the pairs in the order of their keys.
use Rattle.std.proofs.Common.{◌≡◌, ℕ, zero, suc, ◌+◌, ◌<◌, ◌≤◌, true, false, cond, List, [], ◌∷◌, ◌++◌, map, length, take, get_or, Bor, drop, slice_get, Some, refl, sym, ap, ap₂, ◌∙◌, subst, arith, Ordering, Less, Equal, Greater, is_gt, is_eq, IsPermutation, IsSorted}
use Rattle.std.proofs.lemmas.Bool.Decides.{nat_tests}
use Rattle.std.proofs.lemmas.Cmp.{nat_cmp_total, nat_list_cmp_total, on_total, then_total}
use Rattle.std.proofs.lemmas.List.{take_more, length-take-le}
use Rattle.std.specs.List.{AllByRecursion}
use Rattle.std.specs.Cmp.{IsTotalOrder}
use Rattle.std.specs.Ordering.{ordering_then, nat_cmp}
use Rattle.jtext.specs.Sorting.{byte_order, insert_sorted, sort_by, by_key}
use Rattle.jtext.proofs.Sorts.{all_weaker, HasNoTies, all-sort_by, sorted_is-sort_by}

below_is : (i j : ℕ) → i < j → nat_cmp i j ≡ Less
below_is i j h = grind (arith, nat_tests)

apart : (o : Ordering) (i j : ℕ) → i < j → is_eq (ordering_then o (nat_cmp i j)) ≡ false
apart Less i j h = refl
apart Equal i j h = ap is_eq (below_is i j h)
apart Greater i j h = refl

above : (o : Ordering) (i j : ℕ) → i < j → is_gt (ordering_then o (nat_cmp i j)) ≡ is_gt o
above Less i j h = refl
above Equal i j h = ap is_gt (below_is i j h)
above Greater i j h = refl

module _ {X A : Type 0} (key : X → List ℕ) (place : X → ℕ) where
  -- the items are the pairs' keys, with their places from n on
  pub data Listed : ℕ → List (List ℕ × A) → List X → Type 0 where
    none : (n : ℕ) → Listed n [] []
    more : (n : ℕ) (p : List ℕ × A) (ps : List (List ℕ × A)) (x : X) (xs : List X) → key x ≡ p.0 → place x ≡ n → Listed (suc n) ps xs → Listed n (p ∷ ps) (x ∷ xs)

  pub listed_push : (n : ℕ) (ps : List (List ℕ × A)) (xs : List X) (p : List ℕ × A) (x : X) → Listed n ps xs → key x ≡ p.0 → place x ≡ n + length ps → Listed n (ps ++ p ∷ []) (xs ++ x ∷ [])
  listed_push _ _ _ p x (none n) k at = more n p [] x [] k (omega (arith, at)) (none (suc n))
  listed_push _ _ _ p x (more n q qs y ys j is rest) k at = more n q (qs ++ p ∷ []) y (ys ++ x ∷ []) j is (listed_push (suc n) qs ys p x rest k (omega (arith, at)))

  pub listed_more : (ps : List (List ℕ × A)) (xs ys : List X) (i : ℕ) (p : List ℕ × A) (x : X) → Listed 0 (take i ps) xs → i < length ps → p ≡ get_or ps i p → key x ≡ p.0 → place x ≡ i → ys ≡ xs ++ x ∷ []
      → Listed 0 (take (i + 1) ps) ys
  listed_more ps xs ys i p x listed lt is k at grown =
      let len : length (take i ps) ≡ i = length-take-le i ps (omega (arith, lt)) in
      let front : take (i + 1) ps ≡ take i ps ++ p ∷ [] = take_more ps i p lt ∙ ap (λ q. take i ps ++ q ∷ []) (sym is) in
      subst (λ l. Listed 0 (take (i + 1) ps) l) (sym grown) (subst (λ l. Listed 0 l (xs ++ x ∷ [])) (sym front) (listed_push 0 (take i ps) xs p x listed k (omega (arith, at, len))))

  later : (n : ℕ) (ps : List (List ℕ × A)) (xs : List X) → Listed n ps xs → AllByRecursion (λ x. n ≤ place x) xs
  later _ _ _ (none n) = tt
  later _ _ _ (more n p ps x xs k is rest) = (omega (arith, is), all_weaker (λ y. suc n ≤ place y) (λ y. n ≤ place y) (λ y h. omega (arith, h)) xs (later (suc n) ps xs rest))

module _ {X A : Type 0} (cmp : X → X → Ordering) (key : X → List ℕ) (place : X → ℕ)
    (compares : (x y : X) → cmp x y ≡ ordering_then (byte_order (key x) (key y)) (nat_cmp (place x) (place y))) where
  no_ties : (n : ℕ) (ps : List (List ℕ × A)) (xs : List X) → Listed key place n ps xs → HasNoTies cmp xs
  no_ties _ _ _ (none n) = tt
  no_ties _ _ _ (more n p ps x xs k is rest) = (
    all_weaker (λ y. suc n ≤ place y) (λ y. is_eq (cmp x y) ≡ false) (λ y h. ap is_eq (compares x y) ∙ apart (byte_order (key x) (key y)) (place x) (place y) (omega (arith, is, h))) xs (later key place (suc n) ps xs rest),
    no_ties (suc n) ps xs rest,
  )

  -- the items are the keys of those pairs, whose places are known
  module _ (all : List (List ℕ × A)) where
    data Picks : List (List ℕ × A) → List X → Type 0 where
      nothing : Picks [] []
      pick : (p : List ℕ × A) (ps : List (List ℕ × A)) (x : X) (xs : List X) → key x ≡ p.0 → slice_get all (place x) ≡ Some p → Picks ps xs → Picks (p ∷ ps) (x ∷ xs)

    picks_inserted : (p : List ℕ × A) (ps : List (List ℕ × A)) (x : X) (xs : List X) → key x ≡ p.0 → slice_get all (place x) ≡ Some p → Picks ps xs → AllByRecursion (λ y. place x < place y) xs
        → Picks (insert_sorted (λ a b. byte_order a.0 b.0) p ps) (insert_sorted cmp x xs)
    picks_inserted p _ x _ k at nothing below = pick p [] x [] k at nothing
    picks_inserted p _ x _ k at (pick q qs y ys j is rest) below =
        let same : is_gt (cmp x y) ≡ is_gt (byte_order p.0 q.0) =
        ap is_gt (compares x y) ∙ above (byte_order (key x) (key y)) (place x) (place y) below.0 ∙ ap₂ (λ a b. is_gt (byte_order a b)) k j in
        subst (λ b. Picks (insert_sorted (λ a c. byte_order a.0 c.0) p (q ∷ qs)) (cond b (y ∷ insert_sorted cmp x ys) (x ∷ y ∷ ys))) (sym same)
        (elim (is_gt (byte_order p.0 q.0)) as (λ b. Picks (cond b (q ∷ insert_sorted (λ a c. byte_order a.0 c.0) p qs) (p ∷ q ∷ qs)) (cond b (y ∷ insert_sorted cmp x ys) (x ∷ y ∷ ys))) [
          | true ↦ pick q _ y _ j is (picks_inserted p qs x ys k at rest below.1)
          | false ↦ pick p (q ∷ qs) x (y ∷ ys) k at (pick q qs y ys j is rest)
        ])

    picks_sorted : (n : ℕ) (ps : List (List ℕ × A)) (xs : List X) → Listed key place n ps xs → drop n all ≡ ps → Picks (by_key ps) (sort_by cmp xs)
    picks_sorted _ _ _ (none n) from = nothing
    picks_sorted _ _ _ (more n p ps x xs k is rest) from =
        let (at, tail) = first_of all n p ps from in
        picks_inserted p (by_key ps) x (sort_by cmp xs) k (ap (slice_get all) is ∙ at) (picks_sorted (suc n) ps xs rest tail)
        (all-sort_by cmp (λ y. place x < place y) xs (all_weaker (λ y. suc n ≤ place y) (λ y. place x < place y) (λ y h. omega (arith, is, h)) xs (later key place (suc n) ps xs rest)))
      where
        first_of : (l : List (List ℕ × A)) (n : ℕ) (p : List ℕ × A) (ps : List (List ℕ × A)) → drop n l ≡ p ∷ ps → (slice_get l n ≡ Some p) × (drop (suc n) l ≡ ps)
        first_of [] zero p ps e = cc
        first_of [] (suc n) p ps e = cc
        first_of (q ∷ l) zero p ps e = let h : q ≡ p = cc in let t : l ≡ ps = cc in (ap Some h, t)
        first_of (q ∷ l) (suc n) p ps e = first_of l n p ps e

    picked : (ps : List (List ℕ × A)) (xs : List X) → Picks ps xs → map (λ x. slice_get all (place x)) xs ≡ map (λ p. Some p) ps
    picked _ _ nothing = refl
    picked _ _ (pick p ps x xs k at rest) = ap₂ ◌∷◌ at (picked ps xs rest)

  pub places_sorted : IsTotalOrder cmp → (ps : List (List ℕ × A)) (xs ys : List X) → Listed key place 0 ps xs → IsPermutation xs ys → IsSorted cmp ys
      → map (λ y. slice_get ps (place y)) ys ≡ map (λ p. Some p) (by_key ps)
  places_sorted total ps xs ys listed same sorted =
      ap (map (λ y. slice_get ps (place y))) (sorted_is-sort_by cmp total xs ys (no_ties 0 ps xs listed) same sorted) ∙ picked ps (by_key ps) (sort_by cmp xs) (picks_sorted ps 0 ps xs listed refl)

pub order_total : IsTotalOrder {K = Bor (List ℕ) × ℕ} (λ x y. ordering_then (byte_order x.0.now y.0.now) (nat_cmp x.1 y.1))
order_total = then_total (on_total (λ x. x.0.now) nat_list_cmp_total) (on_total (λ x. x.1) nat_cmp_total)
