-- What follows from a test that fails and from a test of either of two.
use Rattle.std.proofs.Common.{◌≡◌, Bool, true, false, ◌||◌, refl}

pub no : {A : Type 0} → false ≡ true → A
no e = cc

-- what follows from each of two follows from one of them
pub either : (a b : Bool) (P : Type 0) → (a ≡ true → P) → (b ≡ true → P) → (a || b) ≡ true → P
either true b P f g h = f refl
either false b P f g h = g h
