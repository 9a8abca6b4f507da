use Rattle.std.proofs.Common.{◌≡◌, ℕ, zero, suc, ◌+◌, ◌<◌, List, [], ◌∷◌, ◌++◌, length, take, drop, refl, sym, ap, ap₂, ◌∙◌, arith, codes, Option, Some, None}
use Rattle.std.proofs.lemmas.List.Quantifiers.{position-Some}
use Rattle.std.specs.List.{position, remove}
use Rattle.jtext.specs.declared.json.Json.{Json}
use Rattle.nb_model.specs.declared.cell.Cell.{Cell}
use Rattle.nb_model.specs.Tags.{is_tagged}
use Rattle.nb_params.specs.Injected.{with_parameters, placed_at, placed_after, parameters_cell, fresh_id, ids}
use Rattle.nb_params.specs.Placing.{with_cell, place_behind, place_after}

-- the first i items, and what follows them
pub take_front : {A : Type 0} (xs ys : List A) (i : ℕ) → i < length xs → take i (take i xs ++ ys) ≡ take i xs
take_front [] ys i h = absurd (omega (arith, h))
take_front (x ∷ xs) ys zero h = refl
take_front (x ∷ xs) ys (suc i) h = ap (λ zs. x ∷ zs) (take_front xs ys i (omega (arith, h)))

pub drop_front : {A : Type 0} (xs ys : List A) (i : ℕ) → i < length xs → drop i (take i xs ++ ys) ≡ ys
drop_front [] ys i h = absurd (omega (arith, h))
drop_front (x ∷ xs) ys zero h = refl
drop_front (x ∷ xs) ys (suc i) h = drop_front xs ys i (omega (arith, h))

-- the cell that an earlier injection made is replaced
pub replaced : (ps : List (List ℕ × Json)) (cells rest new : List Cell) (i : ℕ) (d : Cell) → position (is_tagged (codes "injected-parameters")) cells ≡ Some i → rest ≡ remove cells i → new ≡ with_cell i ps rest
    → new ≡ with_parameters ps cells
replaced ps cells rest new i d at is e =
    let h = (position-Some (is_tagged (codes "injected-parameters")) cells i d at).0 in
    let next : suc i ≡ i + 1 = omega arith in
    let same : rest ≡ take i cells ++ drop (i + 1) cells = is ∙ ap (λ n. take i cells ++ drop n cells) next in
    e ∙ ap (λ r. with_cell i ps r) same
    ∙ ap₂ (λ front back. front ++ parameters_cell (fresh_id (ids (take i cells ++ drop (i + 1) cells))) ps ∷ back) (take_front cells (drop (i + 1) cells) i h) (drop_front cells (drop (i + 1) cells) i h)
    ∙ sym (ap (λ o. placed_at o ps cells) at)

pub added : (ps : List (List ℕ × Json)) (cells new : List Cell) (at : ℕ) → position (is_tagged (codes "injected-parameters")) cells ≡ None → at ≡ place_after cells → new ≡ with_cell at ps cells → new ≡ with_parameters ps cells
added ps cells new at absent is e = e ∙ ap (λ n. with_cell n ps cells) is ∙ by_place (position (is_tagged (codes "parameters")) cells) ∙ sym (ap (λ o. placed_at o ps cells) absent)
  where
    by_place : (o : Option ℕ) → with_cell (place_behind o) ps cells ≡ placed_after o ps cells
    by_place None = refl
    by_place (Some i) = refl
