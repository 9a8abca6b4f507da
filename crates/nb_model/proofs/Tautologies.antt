-- Equations between tests that hold whatever their parts are, by going through all cases.
use Rattle.std.proofs.Common.{◌≡◌, ℕ, zero, suc, Bool, true, false, not, ◌&&◌, ◌||◌, refl, sym}
use Rattle.std.proofs.lemmas.Bool.{and_parts}

-- a test of so many parts
abbrev pub Test : ℕ → Type 0
Test zero = Bool
Test (suc n) = Bool → Test n

-- it passes in all cases
abbrev pub passes : (n : ℕ) → Test n → Bool
passes zero b = b
passes (suc n) f = passes n (f true) && passes n (f false)

abbrev pub Holds : (n : ℕ) → Test n → Type 0
Holds zero b = b ≡ true
Holds (suc n) f = (b : Bool) → Holds n (f b)

pub not_or : (a b : Bool) → not (a || b) ≡ true → (a ≡ false) × (not b ≡ true)
not_or false b n = (refl, n)
not_or true b n = cc

pub always : (n : ℕ) (f : Test n) → passes n f ≡ true → Holds n f
always zero b e = e
always (suc n) f e =
    let h = and_parts (passes n (f true)) (passes n (f false)) e in
    λ b. elim b as (λ v. Holds n (f v)) [ true ↦ always n (f true) h.0 | false ↦ always n (f false) h.1 ]

-- the two are equal
abbrev pub same : Bool → Bool → Bool
same true b = b
same false b = not b

pub from_same : (a b : Bool) → same a b ≡ true → a ≡ b
from_same true b e = sym e
from_same false true e = e
from_same false false e = refl
