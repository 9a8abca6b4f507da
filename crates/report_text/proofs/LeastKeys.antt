-- The least key of a list of pairs, looked for from the last pair on.
use Rattle.std.proofs.Common.{◌≡◌, ◌<◌, ℕ, zero, suc, ◌+◌, Bool, true, false, if◌then◌else◌, List, [], ◌∷◌, ◌++◌, length, take, drop, refl, sym, ◌∙◌, ap, append_assoc, arith}
use Rattle.std.proofs.lemmas.Bool.{cond-true, cond-false}
use Rattle.std.proofs.lemmas.List.{length-drop}
use Rattle.std.specs.Ordering.{is_gt}
use Rattle.jtext.specs.declared.json.Json.{Json}
use Rattle.jtext.specs.Sorting.{byte_order, insert_sorted, by_key}
use Rattle.report_text.specs.Page.{first_key}

abbrev Pair : Type 0
Pair = List ℕ × Json

some_inserted : (p : Pair) (qs : List Pair) → 0 < length (insert_sorted (λ (a : Pair) (b : Pair). byte_order a.0 b.0) p qs)
some_inserted p [] = omega arith
some_inserted p (q ∷ qs) = by (is_gt (byte_order p.0 q.0)) refl
  where
    by : (b : Bool) → is_gt (byte_order p.0 q.0) ≡ b → 0 < length (insert_sorted (λ (a : Pair) (b : Pair). byte_order a.0 b.0) p (q ∷ qs))
    by true e =
        let is = ap length (cond-true (is_gt (byte_order p.0 q.0)) (q ∷ insert_sorted (λ (a : Pair) (b : Pair). byte_order a.0 b.0) p qs) (p ∷ q ∷ qs) e) in omega (arith, is)
    by false e =
        let is = ap length (cond-false (is_gt (byte_order p.0 q.0)) (q ∷ insert_sorted (λ (a : Pair) (b : Pair). byte_order a.0 b.0) p qs) (p ∷ q ∷ qs) e) in omega (arith, is)

some_sorted : (ps : List Pair) → 0 < length ps → 0 < length (by_key ps)
some_sorted [] some = some
some_sorted (p ∷ ps) some = some_inserted p (by_key ps)

first_inserted : (p : Pair) (qs : List Pair) → 0 < length qs
    → first_key (insert_sorted (λ (a : Pair) (b : Pair). byte_order a.0 b.0) p qs) ≡ (if is_gt (byte_order p.0 (first_key qs)) then first_key qs else p.0)
first_inserted p [] some = absurd (omega arith)
first_inserted p (q ∷ qs) some = by (is_gt (byte_order p.0 q.0)) refl
  where
    by : (b : Bool) → is_gt (byte_order p.0 q.0) ≡ b
        → first_key (insert_sorted (λ (a : Pair) (b : Pair). byte_order a.0 b.0) p (q ∷ qs)) ≡ (if is_gt (byte_order p.0 q.0) then q.0 else p.0)
    by true e =
        ap first_key (cond-true (is_gt (byte_order p.0 q.0)) (q ∷ insert_sorted (λ (a : Pair) (b : Pair). byte_order a.0 b.0) p qs) (p ∷ q ∷ qs) e)
        ∙ sym (cond-true (is_gt (byte_order p.0 q.0)) q.0 p.0 e)
    by false e =
        ap first_key (cond-false (is_gt (byte_order p.0 q.0)) (q ∷ insert_sorted (λ (a : Pair) (b : Pair). byte_order a.0 b.0) p qs) (p ∷ q ∷ qs) e)
        ∙ sym (cond-false (is_gt (byte_order p.0 q.0)) q.0 p.0 e)

take_front : (xs ys : List Pair) → take (length xs) (xs ++ ys) ≡ xs
take_front [] ys = refl
take_front (x ∷ xs) ys = ap (λ z. x ∷ z) (take_front xs ys)

drop_front : (xs ys : List Pair) → drop (length xs) (xs ++ ys) ≡ ys
drop_front [] ys = refl
drop_front (x ∷ xs) ys = drop_front xs ys

rejoined : (n : ℕ) (xs : List Pair) → xs ≡ take n xs ++ drop n xs
rejoined zero xs = refl
rejoined (suc n) [] = refl
rejoined (suc n) (x ∷ xs) = ap (λ z. x ∷ z) (rejoined n xs)

-- one pair more, from the back
pub record Lesser (pairs others : List Pair) (new : List ℕ) : Type 0 where
  pub below : length others < length pairs
  pub front : others ≡ take (length others) pairs
  pub least : new ≡ first_key (by_key (drop (length others) pairs))

pub one_lesser : (pairs rest others : List Pair) (pair : Pair) (least new : List ℕ) → length rest < length pairs → rest ≡ take (length rest) pairs
    → rest ≡ others ++ pair ∷ [] → length others + 1 ≡ length rest → least ≡ first_key (by_key (drop (length rest) pairs))
    → new ≡ (if is_gt (byte_order pair.0 least) then least else pair.0) → Lesser pairs others new
one_lesser pairs rest others pair least new below front is count key new_is =
    let behind = drop (length rest) pairs in
    let split : pairs ≡ others ++ pair ∷ behind =
    rejoined (length rest) pairs ∙ ap (λ x. x ++ behind) (sym front ∙ is) ∙ append_assoc others (pair ∷ []) behind in
    let some : 0 < length behind = omega (arith, length-drop (length rest) pairs) in
    record {
      below = omega arith;
      front = sym (ap (take (length others)) split ∙ take_front others (pair ∷ behind));
      least = new_is ∙ ap (λ k. if is_gt (byte_order pair.0 k) then k else pair.0) key ∙ sym (first_inserted pair (by_key behind) (some_sorted behind some))
          ∙ ap (λ ps. first_key (by_key ps)) (sym (ap (drop (length others)) split ∙ drop_front others (pair ∷ behind)));
    }
