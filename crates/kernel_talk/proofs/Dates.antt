-- A date has ASCII alone, so it is UTF-8.
use Rattle.std.proofs.Common.{ℕ, zero, suc, ◌<◌, ◌/◌, List, [], ◌∷◌, Result, Ok, Err, refl, arith}
use Rattle.std.specs.Result.{IsOk, MatchResult}
use Rattle.std.specs.Str.{IsUtf8, IsAscii}
use Rattle.std.proofs.lemmas.Nat.{mod_below}
use Rattle.std.proofs.lemmas.Str.{IsUtf8-from_ascii}
use Rattle.jmsg.specs.Date.{digit, text_with, date_of}

-- each is below 128
data AreSmall : List ℕ → Type 0 where
  none : AreSmall []
  one : {x : ℕ} {xs : List ℕ} → x < 128 → AreSmall xs → AreSmall (x ∷ xs)

ascii : (xs : List ℕ) → AreSmall xs → IsAscii xs
ascii [] none i = omega arith
ascii (x ∷ xs) (one small rest) zero = small
ascii (x ∷ xs) (one small rest) (suc i) = ascii xs rest i

a_digit : (n unit : ℕ) → digit n unit < 128
a_digit n unit = omega (arith, mod_below (n / unit) 10 (omega arith))

text_ascii : (year month day hour minute second ms : ℕ) → IsAscii (text_with year month day hour minute second ms)
text_ascii y mo d h mi s ms =
    ascii (text_with y mo d h mi s ms)
    (one (a_digit y 1000) (one (a_digit y 100) (one (a_digit y 10) (one (a_digit y 1) (one (omega arith)
    (one (a_digit mo 10) (one (a_digit mo 1) (one (omega arith)
    (one (a_digit d 10) (one (a_digit d 1) (one (omega arith)
    (one (a_digit h 10) (one (a_digit h 1) (one (omega arith)
    (one (a_digit mi 10) (one (a_digit mi 1) (one (omega arith)
    (one (a_digit s 10) (one (a_digit s 1) (one (omega arith)
    (one (a_digit ms 100) (one (a_digit ms 10) (one (a_digit ms 1) (one (omega arith) none))))))))))))))))))))))))

pub date_utf8 : (ms : ℕ) → IsUtf8 (date_of ms)
unfolding date_of
date_utf8 ms = IsUtf8-from_ascii _ (text_ascii _ _ _ _ _ _ _)

pub is_ok : {T E : Type 0} (r : Result T E) (bytes : List ℕ) (P : T → Type 0) (Q : E → Type 0) → IsUtf8 bytes → MatchResult r P (λ e. (IsUtf8 bytes → ⊥) × Q e) → IsOk r
is_ok (Ok x) bytes P Q utf8 cases = refl
is_ok (Err e) bytes P Q utf8 cases = absurd (cases.0 utf8)
