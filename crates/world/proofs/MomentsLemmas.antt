-- How what is said of the moments of calls is put together.
use Rattle.std.specs.Prelude.{
  ◌≡◌,
  [],
  ℕ,
  ◌-◌,
  ◌<◌,
  ◌≤◌,
  length,
  drop,
  List,
  ◌∷◌,
  Option,
  Some,
  None,
  IfSome,
  IsSomeAnd,
  refl,
}
use Rattle.std.proofs.Common.{subst, sym, suc, arith, inl, inr}
use Rattle.std.proofs.lemmas.Bool.{cases_lt}
use Rattle.world.specs.declared.entry.Entry.{Entry}
use Rattle.world.specs.Moments.{Since, start, more, Told, Tells, upto}

start_at : (j : Option (List Entry)) (R : List Entry → List Entry → Type 0)
    → ((before : List Entry) → R before before) → IfSome j (λ after. IsSomeAnd j (λ before. R before after))
start_at None R r = tt
start_at (Some x) R r = r x

then_at : (i j k : Option (List Entry)) (R S T : List Entry → List Entry → Type 0)
    → IfSome j (λ y. IsSomeAnd i (λ x. R x y)) → IfSome k (λ z. IsSomeAnd j (λ y. S y z))
    → ((x y z : List Entry) → R x y → S y z → T x z) → IfSome k (λ z. IsSomeAnd i (λ x. T x z))
then_at i j None R S T r s both = tt
then_at i None (Some z) R S T r s both = absurd s
then_at None (Some y) (Some z) R S T r s both = absurd r
then_at (Some x) (Some y) (Some z) R S T r s both = both x y z r s

-- entries are only added
pub since_length : {P : List Entry → Type 0} {x y : List Entry} → Since P x y → length x ≤ length y
since_length start = omega arith
since_length (more {past} {entry} s p) = let less = since_length s in omega (arith, less)

-- nothing was called
pub told_start : {j : Option (List Entry)} {R : List Entry → List Entry → Type 0}
    → ((before : List Entry) → R before before) → Told j j R
told_start {j} {R} r = record { so = start_at j R r }

-- one call and then another
pub told_then : {i j k : Option (List Entry)} {R S T : List Entry → List Entry → Type 0} → Told i j R
    → Told j k S → ((x y z : List Entry) → R x y → S y z → T x z) → Told i k T
told_then {i} {j} {k} {R} {S} {T} r s both = record { so = then_at i j k R S T r.so s.so both }

-- some calls and then one
pub told_one : {i j k : Option (List Entry)} {R T : List Entry → List Entry → Type 0} {entry : Entry}
    → Told i j R → Tells j k entry → ((x y : List Entry) → R x y → T x (entry ∷ y)) → Told i k T
told_one {T = T} r s both = told_then r s (λ x y z a e. subst (λ w. T x w) (sym e) (both x y a))

-- one call alone
pub tells_as : {j k : Option (List Entry)} {R : List Entry → List Entry → Type 0} {entry : Entry}
    → Tells j k entry → ((past : List Entry) → R past (entry ∷ past)) → Told j k R
tells_as {R = R} {entry} s so = told_one (told_start {R = λ x y. x ≡ y} (λ x. refl)) s (λ x y e. subst (λ w. R x (entry ∷ w)) e (so x))

-- what follows of what was told
pub told_as : {i j : Option (List Entry)} {R S : List Entry → List Entry → Type 0} → Told i j R
    → ((x y : List Entry) → R x y → S x y) → Told i j S
told_as {i} {j} {R} {S} r turns = told_then (told_start {j = i} {R = λ x y. x ≡ y} (λ x. refl)) r (λ x y z e a. turns x z (subst (λ w. R w z) (sym e) a))

both_at : (i j : Option (List Entry)) (R S : List Entry → List Entry → Type 0)
    → IfSome j (λ y. IsSomeAnd i (λ x. R x y)) → IfSome j (λ y. IsSomeAnd i (λ x. S x y))
    → IfSome j (λ y. IsSomeAnd i (λ x. R x y × S x y))
both_at i None R S r s = tt
both_at None (Some y) R S r s = absurd r
both_at (Some x) (Some y) R S r s = (r, s)

-- two facts of the same calls
pub told_both : {i j : Option (List Entry)} {R S : List Entry → List Entry → Type 0} → Told i j R → Told i j S
    → Told i j (λ x y. R x y × S x y)
told_both {i} {j} {R} {S} r s = record { so = both_at i j R S r.so s.so }

-- some moments and then others
pub since_then : {P : List Entry → Type 0} {x y z : List Entry} → Since P x y → Since P y z → Since P x z
since_then a start = a
since_then a (more b p) = more (since_then a b) p

-- what follows at each moment
pub since_as : {P Q : List Entry → Type 0} {x y : List Entry} → ((now : List Entry) → P now → Q now)
    → Since P x y → Since Q x y
since_as turns start = start
since_as turns (more {past} {entry} a p) = more (since_as turns a) (turns (entry ∷ past) p)

-- at each moment by its number
pub since_at : {P : List Entry → Type 0} {before after : List Entry} → Since P before after → (t : ℕ)
    → length before < t → t ≤ length after → P (upto t after)
since_at start t low high = absurd (omega arith)
since_at {P} {before} (more {past} {entry} since p) t low high =
    elim (cases_lt (length past) t) [
      | inl above ↦
          let k : length (entry ∷ past) - t ≡ 0 = omega arith in
          subst (λ n. P (drop n (entry ∷ past))) (sym k) p
      | inr below ↦
          let k : length (entry ∷ past) - t ≡ suc (length past - t) = omega arith in
          subst (λ n. P (drop n (entry ∷ past))) (sym k) (since_at since t low below)
    ]

-- ---- from a journal that may not be told

-- the journal, and the empty one where it isn't told
abbrev pub or_none : Option (List Entry) → List Entry
or_none None = []
or_none (Some x) = x

-- no call was made since it was told
pub at_start : (P : List Entry → Type 0) (j : Option (List Entry)) → IfSome j (Since P (or_none j))
at_start P None = tt
at_start P (Some x) = start
