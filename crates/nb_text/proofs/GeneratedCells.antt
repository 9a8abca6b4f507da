-- Cells that are generated one after another.
use Rattle.std.proofs.Common.{◌≡◌, ℕ, zero, suc, ◌+◌, [], ◌∷◌, ◌++◌, sym, ap, ◌∙◌, arith, add-zero, add-one}
use Rattle.nb_text.specs.Generated.{generated_cell, cells_from}

cells_push : (j n : ℕ) → cells_from j (suc n) ≡ cells_from j n ++ generated_cell (j + n) ∷ []
cells_push j zero = ap (λ i. generated_cell i ∷ []) (sym (add-zero j))
cells_push j (suc n) =
    let same : (j + 1) + n ≡ j + suc n = omega arith in
    ap (λ l. generated_cell j ∷ l) (cells_push (j + 1) n ∙ ap (λ i. cells_from (j + 1) n ++ generated_cell i ∷ []) same)

-- one generated cell more
pub one_more : (n : ℕ) → cells_from 0 n ++ generated_cell n ∷ [] ≡ cells_from 0 (n + 1)
one_more n =
    let same : 0 + n ≡ n = omega arith in
    ap (λ i. cells_from 0 n ++ generated_cell i ∷ []) (sym same) ∙ sym (cells_push 0 n) ∙ ap (cells_from 0) (sym (add-one n))
