use Rattle.std.proofs.Common.{◌≡◌, ℕ, suc, sym, ◌+◌, List, [], ◌∷◌, ◌++◌, length, refl, ap, ◌∙◌, arith}
use Rattle.jtext.specs.declared.json.Json.{Json}
use Rattle.nb_migrate.specs.Raised.{raised_cell, raised_from}

-- as many as before
pub raised_length : (i : ℕ) (vs : List Json) → length (raised_from i vs) ≡ length vs
raised_length i [] = refl
raised_length i (v ∷ vs) = ap suc (raised_length (i + 1) vs)

raised_last : (i : ℕ) (vs : List Json) (v : Json) → raised_from i (vs ++ v ∷ []) ≡ raised_from i vs ++ raised_cell (i + length vs) v ∷ []
raised_last i [] v = ap (λ n. raised_cell n v ∷ []) (omega arith)
raised_last i (w ∷ ws) v =
    let same : i + 1 + length ws ≡ i + suc (length ws) = omega arith in
    ap (λ l. raised_cell i w ∷ l) (raised_last (i + 1) ws v ∙ ap (λ n. raised_from (i + 1) ws ++ raised_cell n v ∷ []) same)

-- one item more
pub raised_more : (vs out new : List Json) (v cell : Json) (n : ℕ) → out ≡ raised_from 0 vs → n ≡ length out → cell ≡ raised_cell n v → new ≡ out ++ cell ∷ [] → new ≡ raised_from 0 (vs ++ v ∷ [])
raised_more vs out new v cell n so long is push =
    let count : n ≡ length vs = long ∙ ap length so ∙ raised_length 0 vs in
    let index : n ≡ 0 + length vs = omega (arith, count) in
    push ∙ ap (λ l. l ++ cell ∷ []) so ∙ ap (λ x. raised_from 0 vs ++ x ∷ []) (is ∙ ap (λ m. raised_cell m v) index) ∙ sym (raised_last 0 vs v)
