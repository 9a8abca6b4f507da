-- Escapes by number in string literals (The Python Language Reference, 2.4.1).
use Rattle.std.specs.Prelude.{ℕ, List, ◌∷◌, if◌then◌else◌, nat_le}
use Rattle.nb_params.specs.Python.{two_digits, four_digits, eight_digits}

-- the escape of a character that doesn't stand for itself
abbrev pub escape : ℕ → List ℕ
escape c =
    if nat_le c 255 then 92 ∷ 120 ∷ two_digits c
    else if nat_le c 65535 then 92 ∷ 117 ∷ four_digits c
    else 92 ∷ 85 ∷ eight_digits c
