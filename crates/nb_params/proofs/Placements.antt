-- Where the new cell stands, and what holds of all cells then.
use Rattle.std.proofs.Common.{◌≡◌, ◌⊎◌, ℕ, zero, suc, ◌+◌, ◌<◌, ◌≤◌, ◌^◌, true, false, not, ◌&&◌, ◌||◌, List, [], ◌∷◌, ◌++◌, length, take, drop, refl, sym, ap, ap₂, ◌∙◌, inl, inr, arith, subst, codes, Option, Some, None}
use Rattle.std.proofs.lemmas.Bool.{or_parts, and_parts}
use Rattle.std.proofs.lemmas.List.{take-append-drop, map-append, length-map}
use Rattle.std.specs.List.{AllByRecursion, list_any, position}
use Rattle.std.specs.Str.{bytes_eq}
use Rattle.jtext.specs.declared.json.Json.{Json}
use Rattle.jtext.proofs.Equals.{turned_bytes}
use Rattle.nb_model.specs.declared.cell.Cell.{Cell}
use Rattle.nb_model.specs.Tags.{is_tagged}
use Rattle.nb_params.specs.Injected.{with_parameters, placed_at, placed_after, parameters_cell, fresh_id, ids}
use Rattle.nb_model.proofs.PreparedLaws.{no_repeat}
use Rattle.nb_model.proofs.Tautologies.{not_or}
use Rattle.nb_params.proofs.FreshIds.{fresh_id-free}

-- these cells, or these with one taken out
abbrev pub Rest : List Cell → List Cell → Type 0
Rest cells rest = (rest ≡ cells) ⊎ ((i : ℕ) × (rest ≡ take i cells ++ drop (suc i) cells))

-- the cells around the new one
pub record Placed (ps : List (List ℕ × Json)) (cells new : List Cell) : Type 0 where
  pub front : List Cell
  pub back : List Cell
  pub rest : Rest cells (front ++ back)
  pub is : new ≡ front ++ parameters_cell (fresh_id (ids (front ++ back))) ps ∷ back

pub placed : (ps : List (List ℕ × Json)) (cells : List Cell) → Placed ps cells (with_parameters ps cells)
placed ps cells = at (position (is_tagged (codes "injected-parameters")) cells)
  where
    after : (o : Option ℕ) → Placed ps cells (placed_after o ps cells)
    after None = record { front = []; back = cells; rest = inl refl; is = refl }
    after (Some i) =
        let whole = take-append-drop (i + 1) cells in
        record {
          front = take (i + 1) cells;
          back = drop (i + 1) cells;
          rest = inl whole;
          is = ap (λ l. take (i + 1) cells ++ parameters_cell (fresh_id (ids l)) ps ∷ drop (i + 1) cells) (sym whole);
        }

    at : (o : Option ℕ) → Placed ps cells (placed_at o ps cells)
    at None = after (position (is_tagged (codes "parameters")) cells)
    at (Some i) =
        let next : i + 1 ≡ suc i = omega arith in
        record { front = take i cells; back = drop (i + 1) cells; rest = inr (i, ap (λ k. take i cells ++ drop k cells) next); is = refl }

-- ---- each cell

module _ {X : Type 0} (P : X → Type 0) where
  pub all-left_out : (i : ℕ) (xs : List X) → AllByRecursion P xs → AllByRecursion P (take i xs ++ drop (suc i) xs)
  all-left_out zero [] all = tt
  all-left_out (suc i) [] all = tt
  all-left_out zero (x ∷ xs) all = all.1
  all-left_out (suc i) (x ∷ xs) all = (all.0, all-left_out i xs all.1)

  pub all-between : (xs : List X) (y : X) (ys : List X) → AllByRecursion P (xs ++ ys) → P y → AllByRecursion P (xs ++ y ∷ ys)
  all-between [] y ys all p = (p, all)
  all-between (x ∷ xs) y ys all p = (all.0, all-between xs y ys all.1 p)

pub all-rest : (P : Cell → Type 0) (cells rest : List Cell) → Rest cells rest → AllByRecursion P cells → AllByRecursion P rest
all-rest P cells rest r all =
    elim r [
      | inl e ↦ subst (AllByRecursion P) (sym e) all
      | inr left ↦ subst (AllByRecursion P) (sym left.1) (all-left_out P left.0 cells all)
    ]

length-rest : (cells rest : List Cell) → Rest cells rest → length rest ≤ length cells
length-rest cells rest r =
    elim r [
      | inl e ↦ subst (λ l. length l ≤ length cells) (sym e) (omega arith)
      | inr left ↦ subst (λ l. length l ≤ length cells) (sym left.1) (shorter left.0 cells)
    ]
  where
    shorter : (i : ℕ) (cs : List Cell) → length (take i cs ++ drop (suc i) cs) ≤ length cs
    shorter zero [] = omega arith
    shorter (suc i) [] = omega arith
    shorter zero (c ∷ cs) = omega arith
    shorter (suc i) (c ∷ cs) = let h = shorter i cs in omega arith

pub length-ids_rest : (cells rest : List Cell) → Rest cells rest → length (ids rest) ≤ length cells
length-ids_rest cells rest r = let fewer = length-rest cells rest r in let same = length-map rest (λ c. c.id) in omega arith

-- ---- ids

pub no_repeat-left_out : (i : ℕ) (is : List (List ℕ)) → no_repeat is ≡ true → no_repeat (take i is ++ drop (suc i) is) ≡ true
no_repeat-left_out zero [] e = refl
no_repeat-left_out (suc i) [] e = refl
no_repeat-left_out zero (x ∷ xs) e = (and_parts (not (list_any (bytes_eq x) xs)) (no_repeat xs) e).1
no_repeat-left_out (suc i) (x ∷ xs) e =
    let h = and_parts (not (list_any (bytes_eq x) xs)) (no_repeat xs) e in
    ap₂ (λ a b. a && b) (absent i xs h.0) (no_repeat-left_out i xs h.1)
  where
    absent : (j : ℕ) (ys : List (List ℕ)) → not (list_any (bytes_eq x) ys) ≡ true → not (list_any (bytes_eq x) (take j ys ++ drop (suc j) ys)) ≡ true
    absent zero [] n = refl
    absent (suc j) [] n = refl
    absent zero (y ∷ ys) n = (not_or (bytes_eq x y) (list_any (bytes_eq x) ys) n).1
    absent (suc j) (y ∷ ys) n =
        let g = not_or (bytes_eq x y) (list_any (bytes_eq x) ys) n in
        ap (λ b. not (b || list_any (bytes_eq x) (take j ys ++ drop (suc j) ys))) g.0 ∙ absent j ys g.1

any-between : (q : List ℕ) (xs : List (List ℕ)) (y : List ℕ) (ys : List (List ℕ)) → bytes_eq q y ≡ false → list_any (bytes_eq q) (xs ++ y ∷ ys) ≡ list_any (bytes_eq q) (xs ++ ys)
any-between q [] y ys f = ap (λ b. b || list_any (bytes_eq q) ys) f
any-between q (x ∷ xs) y ys f = ap (λ b. bytes_eq q x || b) (any-between q xs y ys f)

pub no_repeat-between : (xs : List (List ℕ)) (y : List ℕ) (ys : List (List ℕ)) → no_repeat (xs ++ ys) ≡ true → list_any (bytes_eq y) (xs ++ ys) ≡ false → no_repeat (xs ++ y ∷ ys) ≡ true
no_repeat-between [] y ys e f = ap₂ (λ a b. not a && b) f e
no_repeat-between (x ∷ xs) y ys e f =
    let h = and_parts (not (list_any (bytes_eq x) (xs ++ ys))) (no_repeat (xs ++ ys)) e in
    let g = or_parts (bytes_eq y x) (list_any (bytes_eq y) (xs ++ ys)) f in
    ap₂ (λ a b. not a && b) (any-between x xs y ys (turned_bytes x y ∙ g.0)) (no_repeat-between xs y ys h.1 g.1) ∙ ap (λ b. b && true) h.0

ids-left_out : (i : ℕ) (cs : List Cell) → ids (take i cs ++ drop (suc i) cs) ≡ take i (ids cs) ++ drop (suc i) (ids cs)
ids-left_out zero [] = refl
ids-left_out (suc i) [] = refl
ids-left_out zero (c ∷ cs) = refl
ids-left_out (suc i) (c ∷ cs) = ap (λ is. c.id ∷ is) (ids-left_out i cs)

no_repeat-rest : (cells rest : List Cell) → Rest cells rest → no_repeat (ids cells) ≡ true → no_repeat (ids rest) ≡ true
no_repeat-rest cells rest r e =
    elim r [
      | inl same ↦ ap (λ l. no_repeat (ids l)) same ∙ e
      | inr left ↦ ap (λ l. no_repeat (ids l)) left.1 ∙ ap no_repeat (ids-left_out left.0 cells) ∙ no_repeat-left_out left.0 (ids cells) e
    ]

-- no two cells have one id
pub no_repeat-placed : (ps : List (List ℕ × Json)) (cells : List Cell) → length cells < 10 ^ 44 → no_repeat (ids cells) ≡ true → no_repeat (ids (with_parameters ps cells)) ≡ true
no_repeat-placed ps cells h e =
    let p = placed ps cells in
    let apart : ids (p.front ++ p.back) ≡ ids p.front ++ ids p.back = map-append (λ c. c.id) p.front p.back in
    let id = fresh_id (ids (p.front ++ p.back)) in
    let fewer = length-ids_rest cells (p.front ++ p.back) p.rest in
    ap (λ l. no_repeat (ids l)) p.is ∙ ap no_repeat (map-append (λ c. c.id) p.front (parameters_cell id ps ∷ p.back))
    ∙ no_repeat-between (ids p.front) id (ids p.back) (ap no_repeat (sym apart) ∙ no_repeat-rest cells (p.front ++ p.back) p.rest e) (ap (list_any (bytes_eq id)) (sym apart) ∙ fresh_id-free (ids (p.front ++ p.back)) (omega arith))
