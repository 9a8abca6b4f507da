-- The id of the new cell is fresh among the ids of the others, and its number the least from 1.
use Rattle.std.proofs.Common.{◌≡◌, ℕ, zero, suc, ◌+◌, ◌<◌, ◌≤◌, ◌^◌, true, false, List, ◌++◌, length, sym, ap, ◌∙◌, inl, inr, arith, codes}
use Rattle.std.specs.Prelude.{Contains}
use Rattle.std.specs.List.{list_any}
use Rattle.std.specs.Str.{bytes_eq}
use Rattle.std.proofs.lemmas.Bool.{cases_Bool, cases_lt, cond-true, cond-false}
use Rattle.std.proofs.lemmas.Cmp.{nat_list_eq_equiv}
use Rattle.std.proofs.lemmas.Map.Views.{list_any-from_Contains, Contains-from_any}
use Rattle.std.proofs.lemmas.Slice.Eq.{bytes_eq-Decides}
use Rattle.jtext.specs.declared.json.Json.{Json}
use Rattle.nb_model.specs.declared.cell.Cell.{Cell}
use Rattle.nb_params.specs.Fresh.{IsFreshId, IsInserted}
use Rattle.nb_params.specs.Injected.{numbered_id, free_from, fresh_id, ids, with_parameters}
use Rattle.nb_params.proofs.FreshIds.{number_free}
use Rattle.nb_params.proofs.Placements.{placed, length-ids_rest}

-- ---- an id among others, as a test and as a fact

there : (id : List ℕ) (taken : List (List ℕ)) → list_any (bytes_eq id) taken ≡ true → Contains taken id
there id taken e = Contains-from_any (λ x y h. (bytes_eq-Decides x y).0 h) id taken e

not_there : (id : List ℕ) (taken : List (List ℕ)) → list_any (bytes_eq id) taken ≡ false → Contains taken id → ⊥
not_there id taken e h = let t = list_any-from_Contains nat_list_eq_equiv id taken h in never (sym t ∙ e)
  where
    never : true ≡ false → ⊥
    never w = cc

-- ---- the search

no_less : (steps n : ℕ) (taken : List (List ℕ)) → n ≤ free_from steps n taken
no_less zero n taken = omega arith
no_less (suc k) n taken =
    elim (cases_Bool (list_any (bytes_eq (numbered_id n)) taken)) [
      | inl t ↦
          let e = cond-true (list_any (bytes_eq (numbered_id n)) taken) (free_from k (n + 1) taken) n t in
          let h = no_less k (n + 1) taken in omega (arith, e, h)
      | inr f ↦ let e = cond-false (list_any (bytes_eq (numbered_id n)) taken) (free_from k (n + 1) taken) n f in omega (arith, e)
    ]

all_before : (steps n : ℕ) (taken : List (List ℕ)) (m : ℕ) → n ≤ m → m < free_from steps n taken → list_any (bytes_eq (numbered_id m)) taken ≡ true
all_before zero n taken m low high = absurd (omega (arith, low, high))
all_before (suc k) n taken m low high =
    elim (cases_Bool (list_any (bytes_eq (numbered_id n)) taken)) [
      | inl t ↦
          let e = cond-true (list_any (bytes_eq (numbered_id n)) taken) (free_from k (n + 1) taken) n t in
          elim (cases_lt n m) [
            | inl later ↦ all_before k (n + 1) taken m (omega (arith, later)) (omega (arith, e, high))
            | inr here ↦ let same : m ≡ n = omega (arith, low, here) in ap (λ i. list_any (bytes_eq (numbered_id i)) taken) same ∙ t
          ]
      | inr f ↦ let e = cond-false (list_any (bytes_eq (numbered_id n)) taken) (free_from k (n + 1) taken) n f in absurd (omega (arith, e, low, high))
    ]

-- ---- the id

pub fresh_id-fresh : (taken : List (List ℕ)) → length taken < 10 ^ 44 → IsFreshId taken (fresh_id taken)
fresh_id-fresh taken h =
    let first = codes "injected-parameters" in
    let n = free_from (length taken) 1 taken in
    elim (cases_Bool (list_any (bytes_eq first) taken)) [
      | inl t ↦
          let found = number_free taken h t in
          inr (
            there first taken t,
            (
              n,
              record {
                from_one = no_less (length taken) 1 taken;
                free = not_there (numbered_id n) taken found.free;
                least = λ m low high. there (numbered_id m) taken (all_before (length taken) 1 taken m low high);
              },
              cond-true (list_any (bytes_eq first) taken) (numbered_id n) first t,
            ),
          )
      | inr f ↦ inl (not_there first taken f, cond-false (list_any (bytes_eq first) taken) (numbered_id n) first f)
    ]

pub inserted : (ps : List (List ℕ × Json)) (cells : List Cell) → length cells < 10 ^ 44 → IsInserted ps cells (with_parameters ps cells)
inserted ps cells h =
    let p = placed ps cells in
    let fewer = length-ids_rest cells (p.front ++ p.back) p.rest in
    record {
      front = p.front;
      back = p.back;
      id = fresh_id (ids (p.front ++ p.back));
      rest = p.rest;
      is = p.is;
      fresh = fresh_id-fresh (ids (p.front ++ p.back)) (omega (arith, fewer, h));
    }
