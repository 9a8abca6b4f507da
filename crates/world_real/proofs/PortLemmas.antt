-- Ports of which no two are the same.
use Rattle.std.proofs.Common.{◌≢◌, ℕ, List, [], ◌∷◌, zero, suc, slice_get, Some, unwrap_or, ap, sym, arith}
use Rattle.std.proofs.lemmas.Option.{none-some}
use Rattle.world.specs.Told.{AreDifferent}

-- a port is not among these
abbrev Misses : ℕ → List ℕ → Type 0
Misses x xs = (k : ℕ) → slice_get xs k ≢ Some x

misses_none : (x : ℕ) → Misses x []
misses_none x k e = none-some x e

misses_more : (x y : ℕ) (xs : List ℕ) → x ≢ y → Misses x xs → Misses x (y ∷ xs)
misses_more x y xs apart misses zero e = apart (sym (ap (λ o. unwrap_or o x) e))
misses_more x y xs apart misses (suc k) e = misses k e

different_none : AreDifferent []
different_none i j lt within = absurd (omega (arith, within))

different_more : (x : ℕ) (xs : List ℕ) → Misses x xs → AreDifferent xs → AreDifferent (x ∷ xs)
different_more x xs misses different i zero lt within = absurd (omega (arith, lt))
different_more x xs misses different zero (suc j) lt within = λ e. misses j (sym e)
different_more x xs misses different (suc i) (suc j) lt within =
    different i j (omega (arith, lt)) (omega (arith, within))

pub five_different : (a b c d e : ℕ) → a ≢ b → a ≢ c → a ≢ d → a ≢ e → b ≢ c → b ≢ d → b ≢ e → c ≢ d → c ≢ e → d ≢ e
    → AreDifferent (a ∷ b ∷ c ∷ d ∷ e ∷ [])
five_different a b c d e ab ac ad ae bc bd be cd ce de =
    different_more a (b ∷ c ∷ d ∷ e ∷ []) (misses_more a b (c ∷ d ∷ e ∷ []) ab (misses_more a c (d ∷ e ∷ []) ac (misses_more a d (e ∷ []) ad (misses_more a e [] ae (misses_none a)))))
    (different_more b (c ∷ d ∷ e ∷ []) (misses_more b c (d ∷ e ∷ []) bc (misses_more b d (e ∷ []) bd (misses_more b e [] be (misses_none b))))
    (different_more c (d ∷ e ∷ []) (misses_more c d (e ∷ []) cd (misses_more c e [] ce (misses_none c)))
    (different_more d (e ∷ []) (misses_more d e [] de (misses_none d)) (different_more e [] (misses_none e) different_none))))
