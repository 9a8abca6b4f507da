-- Pairs whose keys are known, in the order of their keys.
use Rattle.std.proofs.Common.{◌≡◌, ℕ, Bool, true, false, not, ◌&&◌, ◌||◌, List, [], ◌∷◌, ◌++◌, map, Some, None, refl, sym, ap, ap₂, ◌∙◌, inl, inr, is_gt}
use Rattle.std.specs.List.{list_any, list_all}
use Rattle.std.specs.Str.{bytes_eq}
use Rattle.std.proofs.lemmas.Bool.{cases_Bool, cond-true, cond-false, and_parts, not-true}
use Rattle.std.proofs.lemmas.Slice.Eq.{bytes_eq-Decides}
use Rattle.jtext.specs.declared.json.Json.{Json}
use Rattle.jtext.specs.Find.{find}
use Rattle.jtext.specs.Grammar.{Lacks, Distinct}
use Rattle.jtext.specs.Sorting.{byte_order, insert_sorted, by_key}
use Rattle.jtext.proofs.Equals.{other_bytes}
use Rattle.nb_model.specs.Tree.{optional_pair}

-- the pairs with these keys, in this order
abbrev pub chosen : List (List ℕ) → List (List ℕ × Json) → List (List ℕ × Json)
chosen [] ps = []
chosen (k ∷ ks) ps = optional_pair k (find k ps) ++ chosen ks ps

-- each of these keys comes after k
abbrev pub above : List ℕ → List (List ℕ) → Bool
above k [] = true
above k (j ∷ js) = (not (is_gt (byte_order k j)) && (is_gt (byte_order j k) && not (bytes_eq k j))) && above k js

-- the keys stand in their order, none twice
abbrev pub up : List (List ℕ) → Bool
up [] = true
up (k ∷ ks) = above k ks && up ks

record IsAbove (k j : List ℕ) : Type 0 where
  less : is_gt (byte_order k j) ≡ false
  more : is_gt (byte_order j k) ≡ true
  differs : bytes_eq k j ≡ false

first_above : (k j : List ℕ) (js : List (List ℕ)) → above k (j ∷ js) ≡ true → IsAbove k j
first_above k j js e =
    let h = and_parts (not (is_gt (byte_order k j)) && (is_gt (byte_order j k) && not (bytes_eq k j))) (above k js) e in
    let g = and_parts (not (is_gt (byte_order k j))) (is_gt (byte_order j k) && not (bytes_eq k j)) h.0 in
    let f = and_parts (is_gt (byte_order j k)) (not (bytes_eq k j)) g.1 in
    record { less = not-true (is_gt (byte_order k j)) g.0; more = f.0; differs = not-true (bytes_eq k j) f.1 }

rest_above : (k j : List ℕ) (js : List (List ℕ)) → above k (j ∷ js) ≡ true → above k js ≡ true
rest_above k j js e = (and_parts (not (is_gt (byte_order k j)) && (is_gt (byte_order j k) && not (bytes_eq k j))) (above k js) e).1

-- ---- the new pair comes first

insert-first : (p : List ℕ × Json) (ks : List (List ℕ)) (ps : List (List ℕ × Json)) → above p.0 ks ≡ true
    → insert_sorted (λ a b. byte_order a.0 b.0) p (chosen ks ps) ≡ p ∷ chosen ks ps
insert-first p [] ps e = refl
insert-first p (j ∷ js) ps e =
    elim (find j ps) as (λ o. insert_sorted (λ a b. byte_order a.0 b.0) p (optional_pair j o ++ chosen js ps) ≡ p ∷ (optional_pair j o ++ chosen js ps)) [
      | None ↦ insert-first p js ps (rest_above p.0 j js e)
      | Some v ↦ cond-false (is_gt (byte_order p.0 j)) ((j, v) ∷ insert_sorted (λ a b. byte_order a.0 b.0) p (chosen js ps)) (p ∷ (j, v) ∷ chosen js ps) (first_above p.0 j js e).less
    ]

skip : (p : List ℕ × Json) (ks : List (List ℕ)) (ps : List (List ℕ × Json)) → above p.0 ks ≡ true → chosen ks (p ∷ ps) ≡ chosen ks ps
skip p [] ps e = refl
skip p (j ∷ js) ps e =
    ap₂ (λ o l. optional_pair j o ++ l) (cond-false (bytes_eq p.0 j) (Some p.1) (find j ps) (first_above p.0 j js e).differs) (skip p js ps (rest_above p.0 j js e))

among_above : (q k : List ℕ) (ks : List (List ℕ)) → above k ks ≡ true → list_any (λ j. bytes_eq q j) ks ≡ true → is_gt (byte_order q k) ≡ true
among_above q k [] e h = cc
among_above q k (j ∷ js) e h =
    elim (cases_Bool (bytes_eq q j)) [
      | inl t ↦ ap (λ x. is_gt (byte_order x k)) ((bytes_eq-Decides q j).0 t) ∙ (first_above k j js e).more
      | inr f ↦ among_above q k js (rest_above k j js e) (ap (λ b. b || list_any (λ x. bytes_eq q x) js) (sym f) ∙ h)
    ]

insert-chosen : (p : List ℕ × Json) (ks : List (List ℕ)) (ps : List (List ℕ × Json)) → up ks ≡ true → list_any (λ k. bytes_eq p.0 k) ks ≡ true → find p.0 ps ≡ None
    → insert_sorted (λ a b. byte_order a.0 b.0) p (chosen ks ps) ≡ chosen ks (p ∷ ps)
insert-chosen p [] ps u h none = cc
insert-chosen p (k ∷ ks) ps u h none =
    let both = and_parts (above k ks) (up ks) u in
    elim (cases_Bool (bytes_eq p.0 k)) [
      | inl t ↦
          let e : p.0 ≡ k = (bytes_eq-Decides p.0 k).0 t in
          let high : above p.0 ks ≡ true = ap (λ x. above x ks) e ∙ both.0 in
          ap (λ o. insert_sorted (λ a b. byte_order a.0 b.0) p (optional_pair k o ++ chosen ks ps)) (ap (λ x. find x ps) (sym e) ∙ none) ∙ insert-first p ks ps high
          ∙ ap (λ x. (x, p.1) ∷ chosen ks ps) e ∙ sym (ap₂ (λ o l. optional_pair k o ++ l) (cond-true (bytes_eq p.0 k) (Some p.1) (find k ps) t) (skip p ks ps high))
      | inr f ↦
          let among : list_any (λ j. bytes_eq p.0 j) ks ≡ true = ap (λ b. b || list_any (λ j. bytes_eq p.0 j) ks) (sym f) ∙ h in
          let more = insert-chosen p ks ps both.1 among none in
          let into : insert_sorted (λ a b. byte_order a.0 b.0) p (chosen (k ∷ ks) ps) ≡ optional_pair k (find k ps) ++ chosen ks (p ∷ ps) =
          elim (find k ps) as (λ o. insert_sorted (λ a b. byte_order a.0 b.0) p (optional_pair k o ++ chosen ks ps) ≡ optional_pair k o ++ chosen ks (p ∷ ps)) [
            | None ↦ more
            | Some v ↦ cond-true (is_gt (byte_order p.0 k)) ((k, v) ∷ insert_sorted (λ a b. byte_order a.0 b.0) p (chosen ks ps)) (p ∷ (k, v) ∷ chosen ks ps) (among_above p.0 k ks both.0 among)
                ∙ ap (λ l. (k, v) ∷ l) more
          ] in
          into ∙ sym (ap (λ o. optional_pair k o ++ chosen ks (p ∷ ps)) (cond-false (bytes_eq p.0 k) (Some p.1) (find k ps) f))
    ]

-- ---- all pairs

pub find-lacks : (key : List ℕ) (ps : List (List ℕ × Json)) → Lacks key ps → find key ps ≡ None
find-lacks key [] l = refl
find-lacks key (p ∷ ps) l = cond-false (bytes_eq p.0 key) (Some p.1) (find key ps) (other_bytes p.0 key l.0) ∙ find-lacks key ps l.1

none_chosen : (ks : List (List ℕ)) → [] ≡ chosen ks []
none_chosen [] = refl
none_chosen (k ∷ ks) = none_chosen ks

pub by_key-chosen : (ks : List (List ℕ)) (ps : List (List ℕ × Json)) → up ks ≡ true → Distinct ps → list_all (λ p. list_any (λ k. bytes_eq p.0 k) ks) ps ≡ true → by_key ps ≡ chosen ks ps
by_key-chosen ks [] u d known = none_chosen ks
by_key-chosen ks (p ∷ ps) u d known =
    let h = and_parts (list_any (λ k. bytes_eq p.0 k) ks) (list_all (λ q. list_any (λ k. bytes_eq q.0 k) ks) ps) known in
    ap (insert_sorted (λ a b. byte_order a.0 b.0) p) (by_key-chosen ks ps u d.1 h.1) ∙ insert-chosen p ks ps u h.0 (find-lacks p.0 ps d.0)

pub by_key-again : (ks : List (List ℕ)) (ps : List (List ℕ × Json)) → up ks ≡ true → by_key (chosen ks ps) ≡ chosen ks ps
by_key-again [] ps u = refl
by_key-again (k ∷ ks) ps u =
    let both = and_parts (above k ks) (up ks) u in
    elim (find k ps) as (λ o. by_key (optional_pair k o ++ chosen ks ps) ≡ optional_pair k o ++ chosen ks ps) [
      | None ↦ by_key-again ks ps both.1
      | Some v ↦ ap (insert_sorted (λ a b. byte_order a.0 b.0) (k, v)) (by_key-again ks ps both.1) ∙ insert-first (k, v) ks ps both.0
    ]

-- ---- pairs that are all there

abbrev pub AllFound : List (List ℕ × Json) → List (List ℕ × Json) → Type 0
AllFound [] ps = Unit {0}
AllFound (q ∷ qs) ps = (find q.0 ps ≡ Some q.1) × AllFound qs ps

pub chosen-found : (qs ps : List (List ℕ × Json)) → AllFound qs ps → chosen (map (λ q. q.0) qs) ps ≡ qs
chosen-found [] ps all = refl
chosen-found (q ∷ qs) ps all = ap₂ (λ o l. optional_pair q.0 o ++ l) all.0 (chosen-found qs ps all.1)
