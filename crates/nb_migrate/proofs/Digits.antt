-- Numbers of one digit.
use Rattle.std.proofs.Common.{◌≤◌, ℕ, [], ◌∷◌, refl, inl, inr}
use Rattle.jtext.specs.Number.{IsNumber}

pub one_digit : (d : ℕ) → 49 ≤ d → d ≤ 57 → IsNumber (d ∷ [])
one_digit d low high = record {
  minus = [];
  whole = d ∷ [];
  fraction = [];
  exponent = [];
  is_minus = inl refl;
  is_whole = inr (d, [], low, high, tt, refl);
  is_fraction = inl refl;
  is_exponent = inl refl;
  text = refl;
}
