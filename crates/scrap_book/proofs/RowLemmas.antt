-- The rows of a text, by its line ends.
use Rattle.std.proofs.Common.{◌≡◌, ◌==◌, ℕ, suc, ◌<◌, Bool, true, false, List, [], ◌∷◌, ◌++◌, length, get_or, refl, sym, ◌∙◌, ap, subst, arith, eqb-true, ◌&&◌, not}
use Rattle.std.specs.List.{position_or_len, before_first, after_first, list_all}
use Rattle.std.specs.Cmp.{first_so, second_so}
use Rattle.std.proofs.lemmas.List.Sums.{split_at_first, fails_before_first, passes_at_first}
use Rattle.std.proofs.lemmas.Bool.{cond-false, true≢false}
use Rattle.std.proofs.lemmas.Grind.{common_steps}
use Rattle.report_text.specs.Rows.{rows, before_first_row}

-- no octet of the row is a line end
abbrev pub is_flat : List ℕ → Bool
is_flat r = list_all (λ c. not (c == 10)) r

not_so : (b : Bool) → not b ≡ true → b ≡ false
not_so true e = absurd (true≢false (sym e))
not_so false e = refl

so_not : (b : Bool) → b ≡ false → not b ≡ true
so_not true e = absurd (true≢false e)
so_not false e = refl

both_so : (a b : Bool) → a ≡ true → b ≡ true → (a && b) ≡ true
both_so true b e f = f
both_so false b e f = absurd (true≢false (sym e))

-- what comes before the first line end is the first row
pub rows-cut : (front back : List ℕ) → is_flat front ≡ true → rows (front ++ 10 ∷ back) ≡ front ∷ rows back
rows-cut [] back flat = refl
rows-cut (c ∷ cs) back flat =
    cond-false (c == 10) ([] ∷ rows (cs ++ 10 ∷ back)) (before_first_row c (rows (cs ++ 10 ∷ back))) (not_so (c == 10) (first_so (not (c == 10)) (is_flat cs) flat))
    ∙ ap (before_first_row c) (rows-cut cs back (second_so (not (c == 10)) (is_flat cs) flat))

-- a text with no line end is one row
pub rows-whole : (c : ℕ) (cs : List ℕ) → is_flat (c ∷ cs) ≡ true → rows (c ∷ cs) ≡ (c ∷ cs) ∷ []
rows-whole c [] flat =
    cond-false (c == 10) ([] ∷ []) (before_first_row c []) (not_so (c == 10) (first_so (not (c == 10)) true flat))
rows-whole c (d ∷ ds) flat =
    cond-false (c == 10) ([] ∷ rows (d ∷ ds)) (before_first_row c (rows (d ∷ ds))) (not_so (c == 10) (first_so (not (c == 10)) (is_flat (d ∷ ds)) flat))
    ∙ ap (before_first_row c) (rows-whole d ds (second_so (not (c == 10)) (is_flat (d ∷ ds)) flat))

-- ---- by the place of the first line end

flat_from : (s : List ℕ) → ((k : ℕ) → k < length s → (get_or s k 0 == 10) ≡ false) → is_flat s ≡ true
flat_from [] none = refl
flat_from (c ∷ cs) none = both_so (not (c == 10)) (is_flat cs) (so_not (c == 10) (none 0 (omega arith))) (flat_from cs (λ k below. none (suc k) (omega arith)))

flat_before : (t : List ℕ) → is_flat (before_first (λ b. b == 10) t) ≡ true
flat_before t = flat_from (before_first (λ b. b == 10) t) (λ k less. before t k less)
  where
    before : (t : List ℕ) (k : ℕ) → k < length (before_first (λ b. b == 10) t) → (get_or (before_first (λ b. b == 10) t) k 0 == 10) ≡ false
    before t k less = let f = fails_before_first (λ b. b == 10) t k 0 (grind (arith, common_steps)) in grind (arith, common_steps)

pub rows-split : (text front back : List ℕ) → position_or_len (λ b. b == 10) text < length text
    → front ≡ before_first (λ b. b == 10) text → back ≡ after_first (λ b. b == 10) text → rows text ≡ front ∷ rows back
rows-split text front back some is_front is_back =
    let p : ℕ → Bool = λ b. b == 10 in
    let end = eqb-true (get_or text (position_or_len p text) 0) 10 (passes_at_first p text 0 some) in
    let split : text ≡ front ++ (10 ∷ back) =
    split_at_first p text 0 some ∙ ap (λ b. before_first p text ++ (b ∷ after_first p text)) end ∙ ap (λ f. f ++ (10 ∷ after_first p text)) (sym is_front) ∙ ap (λ a. front ++ (10 ∷ a)) (sym is_back) in
    ap rows split ∙ rows-cut front back (subst (λ f. is_flat f ≡ true) (sym is_front) (flat_before text))

pub rows-one : (text : List ℕ) → 0 < length text → position_or_len (λ b. b == 10) text ≡ length text → rows text ≡ text ∷ []
rows-one [] some none = absurd (omega arith)
rows-one (c ∷ cs) some none =
    rows-whole c cs (flat_from (c ∷ cs) (λ k less. fails_before_first (λ b. b == 10) (c ∷ cs) k 0 (omega arith)))
