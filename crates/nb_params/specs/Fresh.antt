-- The id of the cell of the parameters (nbformat 4.5, `cell_id`: ids differ; which one it is, is our own choice).
use Rattle.std.specs.Prelude.{◌≡◌, ◌≤◌, ◌<◌, ◌⊎◌, ℕ, suc, List, ◌∷◌, ◌++◌, take, drop, codes, Contains}
use Rattle.jtext.specs.declared.json.Json.{Json}
use Rattle.nb_model.specs.declared.cell.Cell.{Cell}
use Rattle.nb_params.specs.Injected.{numbered_id, ids, parameters_cell}

-- the least number from 1 on whose id is none of these
pub record IsLeastFree (taken : List (List ℕ)) (n : ℕ) : Type 0 where
  pub from_one : 1 ≤ n
  pub free : Contains taken (numbered_id n) → ⊥
  pub least : (m : ℕ) → 1 ≤ m → m < n → Contains taken (numbered_id m)

-- the id is `injected-parameters` where that is none of these, else that with the least free number
abbrev pub IsFreshId : List (List ℕ) → List ℕ → Type 0
IsFreshId taken id =
    ((Contains taken (codes "injected-parameters") → ⊥) × (id ≡ codes "injected-parameters"))
    ⊎ (Contains taken (codes "injected-parameters") × ((n : ℕ) × IsLeastFree taken n × (id ≡ numbered_id n)))

-- the new cells are the old ones, or all but one of them, and that of the parameters, with an id fresh among them
pub record IsInserted (ps : List (List ℕ × Json)) (old new : List Cell) : Type 0 where
  pub front : List Cell
  pub back : List Cell
  pub id : List ℕ
  pub rest : (front ++ back ≡ old) ⊎ ((i : ℕ) × (front ++ back ≡ take i old ++ drop (suc i) old))
  pub is : new ≡ front ++ parameters_cell id ps ∷ back
  pub fresh : IsFreshId (ids (front ++ back)) id
