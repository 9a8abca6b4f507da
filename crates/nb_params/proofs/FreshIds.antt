-- The id of the new cell is the id of a cell, and none of the other ids.
use Rattle.std.proofs.Common.{◌≡◌, ◌⊎◌, ℕ, zero, suc, ◌+◌, ◌<◌, ◌≤◌, ◌^◌, true, false, ◌||◌, List, [], ◌∷◌, length, drop, refl, sym, ap, ◌∙◌, inl, inr, arith, codes}
use Rattle.std.proofs.lemmas.Bool.{cases_Bool, cond-true, cond-false, le-leb}
use Rattle.std.proofs.lemmas.Cmp.{nat_list_eq_equiv}
use Rattle.std.proofs.lemmas.Fmt.{decimal_is_IsNumeral_wide, length-decimal-le_wide}
use Rattle.std.proofs.lemmas.List.{length-append}
use Rattle.std.proofs.lemmas.Map.Keys.{IsDistinct-cons}
use Rattle.std.proofs.lemmas.Map.Made.{length-le_from_is_member}
use Rattle.std.proofs.lemmas.Slice.Eq.{bytes_eq-Decides}
use Rattle.std.specs.Fmt.{decimal}
use Rattle.std.specs.List.{AllByRecursion, IsDistinct, list_any}
use Rattle.std.specs.Str.{bytes_eq}
use Rattle.std.specs.Str.Parse.{digits_value}
use Rattle.jtext.proofs.Equals.{other_bytes}
use Rattle.nb_params.specs.Injected.{numbered_id, free_from, fresh_id}
use Rattle.nb_model.specs.Values.{is_id_text}
use Rattle.nb_model.proofs.PreparedLaws.{and_eq}
use Rattle.nb_model.proofs.IdTexts.{decimal_in_id}

-- ---- ids by number

abbrev first : List ℕ
first = codes "injected-parameters"

numbered_injective : (m n : ℕ) → m < 10 ^ 64 → n < 10 ^ 64 → numbered_id m ≡ numbered_id n → m ≡ n
numbered_injective m n hm hn e =
    sym (decimal_is_IsNumeral_wide m hm).1 ∙ ap (λ s. digits_value 10 (drop 20 s)) e ∙ (decimal_is_IsNumeral_wide n hn).1

numbers_differ : (m n : ℕ) → n < 10 ^ 64 → m < n → bytes_eq (numbered_id m) (numbered_id n) ≡ false
numbers_differ m n h lt = other_bytes (numbered_id m) (numbered_id n) (λ e. let same : m ≡ n = numbered_injective m n (omega arith) h e in absurd (omega arith))

first_differs : (n : ℕ) → bytes_eq first (numbered_id n) ≡ false
first_differs n = refl

-- so many ids, numbered from n on
abbrev names : ℕ → ℕ → List (List ℕ)
names zero n = []
names (suc k) n = numbered_id n ∷ names k (n + 1)

length-names : (k n : ℕ) → length (names k n) ≡ k
length-names zero n = refl
length-names (suc k) n = ap suc (length-names k (n + 1))

later_differ : (k m n : ℕ) → m < n → n + k ≤ 10 ^ 64 → AllByRecursion (λ y. bytes_eq (numbered_id m) y ≡ false) (names k n)
later_differ zero m n lt h = tt
later_differ (suc k) m n lt h = (numbers_differ m n (omega arith) lt, later_differ k m (n + 1) (omega arith) (omega arith))

names_distinct : (k n : ℕ) → n + k ≤ 10 ^ 64 → IsDistinct bytes_eq (names k n)
unfolding IsDistinct
names_distinct zero n h = tt
names_distinct (suc k) n h = (later_differ k n (n + 1) (omega arith) (omega arith), names_distinct k (n + 1) (omega arith))

first_absent : (k n : ℕ) → AllByRecursion (λ y. bytes_eq first y ≡ false) (names k n)
first_absent zero n = tt
first_absent (suc k) n = (first_differs n, first_absent k (n + 1))

-- ---- the search

pub record Free (from steps at : ℕ) (ids : List (List ℕ)) : Type 0 where
  pub free : list_any (bytes_eq (numbered_id at)) ids ≡ false
  pub below : at < from + steps

abbrev AllTaken : List (List ℕ) → List (List ℕ) → Type 0
AllTaken ids xs = AllByRecursion (λ x. list_any (bytes_eq x) ids ≡ true) xs

search_ends : (steps n : ℕ) (ids : List (List ℕ)) → Free n steps (free_from steps n ids) ids ⊎ AllTaken ids (names steps n)
search_ends zero n ids = inr tt
search_ends (suc k) n ids =
    elim (cases_Bool (list_any (bytes_eq (numbered_id n)) ids)) [
      | inl t ↦
          let next : free_from (suc k) n ids ≡ free_from k (n + 1) ids = cond-true (list_any (bytes_eq (numbered_id n)) ids) (free_from k (n + 1) ids) n t in
          elim (search_ends k (n + 1) ids) [
            | inl f ↦ inl (record { free = ap (λ i. list_any (bytes_eq (numbered_id i)) ids) next ∙ f.free; below = omega arith })
            | inr all ↦ inr (t, all)
          ]
      | inr f ↦
          let here : free_from (suc k) n ids ≡ n = cond-false (list_any (bytes_eq (numbered_id n)) ids) (free_from k (n + 1) ids) n f in
          inl (record { free = ap (λ i. list_any (bytes_eq (numbered_id i)) ids) here ∙ f; below = omega arith })
    ]

taken_among : (ids xs : List (List ℕ)) → AllTaken ids xs → (q : List ℕ) → list_any (bytes_eq q) xs ≡ true → list_any (bytes_eq q) ids ≡ true
taken_among ids [] all q h = cc
taken_among ids (x ∷ xs) all q h =
    elim (cases_Bool (bytes_eq q x)) [
      | inl t ↦ ap (λ y. list_any (bytes_eq y) ids) ((bytes_eq-Decides q x).0 t) ∙ all.0
      | inr f ↦ taken_among ids xs all.1 q (ap (λ b. b || list_any (bytes_eq q) xs) (sym f) ∙ h)
    ]

-- the first id and one more for each of these ids can't all be among them
pub number_free : (ids : List (List ℕ)) → length ids < 10 ^ 44 → list_any (bytes_eq first) ids ≡ true → Free 1 (length ids) (free_from (length ids) 1 ids) ids
number_free ids h taken =
    elim (search_ends (length ids) 1 ids) [
      | inl found ↦ found
      | inr all ↦
          let apart = names_distinct (length ids) 1 (omega arith) in
          let most = length-le_from_is_member nat_list_eq_equiv (first ∷ names (length ids) 1) ids (IsDistinct-cons bytes_eq first (names (length ids) 1) (first_absent (length ids) 1) apart) (taken_among ids (first ∷ names (length ids) 1) (taken, all)) in
          let many = length-names (length ids) 1 in
          absurd (omega arith)
    ]

pub fresh_id-free : (ids : List (List ℕ)) → length ids < 10 ^ 44 → list_any (bytes_eq (fresh_id ids)) ids ≡ false
fresh_id-free ids h =
    elim (cases_Bool (list_any (bytes_eq first) ids)) [
      | inl t ↦ ap (λ i. list_any (bytes_eq i) ids) (cond-true (list_any (bytes_eq first) ids) (numbered_id (free_from (length ids) 1 ids)) first t) ∙ (number_free ids h t).free
      | inr f ↦ ap (λ i. list_any (bytes_eq i) ids) (cond-false (list_any (bytes_eq first) ids) (numbered_id (free_from (length ids) 1 ids)) first f) ∙ f
    ]

-- ---- the form of ids

numbered_is_id : (n : ℕ) → n < 10 ^ 44 → is_id_text (numbered_id n) ≡ true
numbered_is_id n h =
    let short = length-decimal-le_wide 44 n (omega arith) h (omega arith) in
    let long = length-append (codes "injected-parameters-") (decimal n) in
    and_eq (and_eq (le-leb 1 (length (numbered_id n)) (omega arith)) (le-leb (length (numbered_id n)) 64 (omega arith))) (decimal_in_id n (omega arith))

pub fresh_id-is_id : (ids : List (List ℕ)) → length ids < 10 ^ 44 → is_id_text (fresh_id ids) ≡ true
fresh_id-is_id ids h =
    elim (cases_Bool (list_any (bytes_eq first) ids)) [
      | inl t ↦
          let found = number_free ids h t in
          ap is_id_text (cond-true (list_any (bytes_eq first) ids) (numbered_id (free_from (length ids) 1 ids)) first t) ∙ numbered_is_id (free_from (length ids) 1 ids) (omega arith)
      | inr f ↦ ap is_id_text (cond-false (list_any (bytes_eq first) ids) (numbered_id (free_from (length ids) 1 ids)) first f)
    ]
