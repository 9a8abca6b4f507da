-- Lists, lengths and tests.
use Rattle.std.proofs.Common.{◌≡◌, ◌≢◌, ℕ, ◌<◌, true, List, [], ◌∷◌, ◌++◌, length, take, drop, refl, ap, ◌∙◌, arith}
use Rattle.std.specs.Prelude.{eqb}
use Rattle.std.proofs.lemmas.List.{take-append-drop}
use Rattle.jtext.proofs.Equals.{equal_bytes}
use lib.Pointwise.{pointwise}

pub some_of_len : (m : List ℕ) → 0 < length m → m ≢ []
some_of_len m h e = let k = ap length e in absurd (omega arith)

pub len_of_some : (m : List ℕ) → m ≢ [] → 0 < length m
len_of_some [] h = absurd (h refl)
len_of_some (x ∷ m) h = omega arith

-- a list that starts so is the start and the rest
pub same_start : (a b : List ℕ) → pointwise eqb a (take (length a) b) ≡ true → (a ++ drop (length a) b) ≡ b
same_start a b e = ap (λ t. t ++ drop (length a) b) (equal_bytes a (take (length a) b) e) ∙ take-append-drop (length a) b
