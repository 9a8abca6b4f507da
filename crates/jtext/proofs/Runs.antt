-- The plain characters at the front of a text.
use Rattle.std.proofs.Common.{◌≡◌, ℕ, ◌<◌, List, false, length, subst, inl, inr, arith}
use Rattle.std.specs.List.{prefix_len}
use Rattle.std.specs.Str.{IsCharBoundary}
use Rattle.std.proofs.lemmas.Bool.{cases_lt}
use Rattle.std.proofs.lemmas.Bool.Decides.{nat_tests}
use Rattle.std.proofs.lemmas.List.Sums.{prefix_len-le-length, prefix_len_stops}
use Rattle.std.proofs.lemmas.Str.{IsCharBoundary-end, IsCharBoundary-before_ascii}
use Rattle.jtext.specs.Strings.{is_plain}

not_plain_ascii : (c : ℕ) → is_plain c ≡ false → c < 128
not_plain_ascii c e = grind (arith, nat_tests)

-- a run that only an ASCII byte stops ends where a character does
pub plain_boundary : (s : List ℕ) → IsCharBoundary s (prefix_len is_plain s)
plain_boundary s =
    elim (cases_lt (prefix_len is_plain s) (length s)) [
      | inl within ↦ IsCharBoundary-before_ascii s _ within (not_plain_ascii _ (prefix_len_stops is_plain s 0 within))
      | inr past ↦ subst (IsCharBoundary s) (omega (arith, prefix_len-le-length is_plain s)) (IsCharBoundary-end s)
    ]
