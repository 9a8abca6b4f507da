-- Where the first line of a text ends.
use Rattle.std.proofs.Common.{◌≡◌, ◌==◌, ℕ, zero, suc, ◌+◌, ◌<◌, true, false, List, [], ◌∷◌, Some, None, length, take, drop, get_or, sym, ◌∙◌, ap, arith, add-one, eqb-true}
use Rattle.std.specs.List.{position, position_from}
use Rattle.std.proofs.lemmas.List.Quantifiers.{position-Some}
use Rattle.std.proofs.lemmas.Iterator.Adapters.{position_from-zero}
use Rattle.std.proofs.lemmas.Bool.{cond-true, cond-false}
use Rattle.nb_model.specs.Lines.{lines_of, before_first_line}
use Rattle.jtext.proofs.Edits.{not_first}

-- after the first line end at i the first line is cut
pub lines_of-cut : (s : List ℕ) (i : ℕ) → i < length s → (get_or s i 0 == 10) ≡ true → ((k : ℕ) → k < i → (get_or s k 0 == 10) ≡ false)
    → lines_of s ≡ take (suc i) s ∷ lines_of (drop (suc i) s)
lines_of-cut [] i lt here none = absurd (omega arith)
lines_of-cut (c ∷ cs) zero lt here none = cond-true (c == 10) ((c ∷ []) ∷ lines_of cs) (before_first_line c (lines_of cs)) here
lines_of-cut (c ∷ cs) (suc i) lt here none =
    cond-false (c == 10) ((c ∷ []) ∷ lines_of cs) (before_first_line c (lines_of cs)) (none 0 (omega arith))
    ∙ ap (before_first_line c) (lines_of-cut cs i (omega arith) here (λ k below. none (suc k) (omega arith)))

-- a text with no line end is one line
pub lines_of-whole : (s : List ℕ) → 0 < length s → ((k : ℕ) → k < length s → (get_or s k 0 == 10) ≡ false) → lines_of s ≡ s ∷ []
lines_of-whole [] some none = absurd (omega arith)
lines_of-whole (c ∷ []) some none = cond-false (c == 10) ((c ∷ []) ∷ []) (before_first_line c []) (none 0 (omega arith))
lines_of-whole (c ∷ d ∷ cs) some none =
    cond-false (c == 10) ((c ∷ []) ∷ lines_of (d ∷ cs)) (before_first_line c (lines_of (d ∷ cs))) (none 0 (omega arith))
    ∙ ap (before_first_line c) (lines_of-whole (d ∷ cs) (omega arith) (λ k below. none (suc k) (omega arith)))

-- ---- by the place of the first line end

none_passes : (s : List ℕ) (i : ℕ) → position_from (λ b. b == 10) i s ≡ None → (k : ℕ) → k < length s → (get_or s k 0 == 10) ≡ false
none_passes [] i e k lt = absurd (omega arith)
none_passes (c ∷ cs) i e zero lt = (not_first (c == 10) i (position_from (λ b. b == 10) (i + 1) cs) e).0
none_passes (c ∷ cs) i e (suc k) lt = none_passes cs (i + 1) (not_first (c == 10) i (position_from (λ b. b == 10) (i + 1) cs) e).1 k (omega arith)

pub lines_of-none : (s : List ℕ) → position (λ b. b == 10) s ≡ None → 0 < length s → lines_of s ≡ s ∷ []
lines_of-none s e some = lines_of-whole s some (none_passes s 0 (sym (position_from-zero (λ b. b == 10) s) ∙ e))

-- what the first line end is
pub record IsLineEnd (s : List ℕ) (i : ℕ) : Type 0 where
  pub below : i < length s
  pub here : get_or s i 0 ≡ 10
  pub cut : lines_of s ≡ take (i + 1) s ∷ lines_of (drop (i + 1) s)

pub lines_of-some : (s : List ℕ) (i : ℕ) → position (λ b. b == 10) s ≡ Some i → IsLineEnd s i
lines_of-some s i e =
    let is = position-Some (λ b. b == 10) s i 0 e in
    record {
      below = is.0;
      here = eqb-true (get_or s i 0) 10 is.1;
      cut = rw add-one (lines_of-cut s i is.0 is.1 is.2);
    }
