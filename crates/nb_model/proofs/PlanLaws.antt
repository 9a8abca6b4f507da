-- The plan of a notebook increases, and each index in it is below the number of cells.
use Rattle.std.proofs.Common.{ℕ, ◌+◌, ◌<◌, ◌≤◌, true, false, cond, List, [], ◌∷◌, length, arith}
use Rattle.std.specs.List.{All, AllPairs}
use Rattle.std.proofs.lemmas.List.Elements.{All-nil, All-cons}
use Rattle.std.proofs.lemmas.List.Kept.{AllPairs-cons}
use Rattle.nb_model.specs.declared.cell.Cell.{Cell}
use Rattle.nb_model.specs.Planned.{is_planned, planned_from}

-- the index of one of so many cells from this one on
abbrev Among : ℕ → ℕ → ℕ → Type 0
Among i n k = (i ≤ k) × (k < i + n)

among : (i : ℕ) (cs : List Cell) → All (Among i (length cs)) (planned_from i cs)
among i [] = All-nil (Among i 0)
among i (c ∷ cs) =
    let P = Among i (length (c ∷ cs)) in
    let rest : All P (planned_from (i + 1) cs) =
    λ k d h. let w = among (i + 1) cs k d h in (omega (arith, w.0), omega (arith, w.1)) in
    elim (is_planned c) as (λ b. All P (cond b (i ∷ planned_from (i + 1) cs) (planned_from (i + 1) cs))) [
      | true ↦ All-cons P i (planned_from (i + 1) cs) (omega arith, omega arith) rest
      | false ↦ rest
    ]

pub increases : (i : ℕ) (cs : List Cell) → AllPairs (λ m n. m < n) (planned_from i cs)
increases i [] = λ m n d lt h. absurd (omega (arith, h))
increases i (c ∷ cs) =
    let later : All (λ k. i < k) (planned_from (i + 1) cs) =
    λ k d h. let w = among (i + 1) cs k d h in omega (arith, w.0) in
    elim (is_planned c) as (λ b. AllPairs (λ m n. m < n) (cond b (i ∷ planned_from (i + 1) cs) (planned_from (i + 1) cs))) [
      | true ↦ AllPairs-cons (λ m n. m < n) i (planned_from (i + 1) cs) later (increases (i + 1) cs)
      | false ↦ increases (i + 1) cs
    ]

pub below : (cs : List Cell) → All (λ k. k < length cs) (planned_from 0 cs)
below cs = λ k d h. let w = among 0 cs k d h in omega (arith, w.1)
