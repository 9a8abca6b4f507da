-- Small facts of tests, options and lists.
use Rattle.std.proofs.Common.{◌≡◌, ℕ, ◌<◌, ◌≤◌, List, ◌∷◌, Bool, true, false, ◌&&◌, ◌||◌, Option, Some, None, refl, arith}
use Rattle.std.specs.Prelude.{if◌then◌else◌}

-- a test answers one way
pub not_both : (b : Bool) → b ≡ true → b ≡ false → ⊥
not_both true e f = cc
not_both false e f = cc

-- one of two tests holds, and it isn't the first
pub or_rest : (a b : Bool) → (a || b) ≡ true → a ≡ false → b ≡ true
or_rest true b e f = cc
or_rest false b e f = e

-- a test beside one that holds decides
pub and_true : (a b : Bool) → b ≡ true → (a && b) ≡ a
and_true true b e = e
and_true false b e = refl

-- it was chosen where it holds something
pub if_some : {A : Type 0} (b : Bool) (o : Option A) (x : A) → (if b then o else None) ≡ Some x → b ≡ true
if_some true o x e = refl
if_some false o x e = cc

-- the first item of a list, and the others
pub head_same : {A : Type 0} {x y : A} {xs ys : List A} → ◌≡◌ {A = List A} (x ∷ xs) (y ∷ ys) → x ≡ y
head_same e = cc

pub tail_same : {A : Type 0} {x y : A} {xs ys : List A} → ◌≡◌ {A = List A} (x ∷ xs) (y ∷ ys) → xs ≡ ys
tail_same e = cc

-- a clock before a deadline that the time has reached isn't the time
pub too_late : (due time clock : ℕ) → due ≤ time → clock ≡ time → clock < due → ⊥
too_late due time clock a b e = absurd (omega (arith, a, b, e))
