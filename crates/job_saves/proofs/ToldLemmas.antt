-- What is told of calls that add to all that was told since any moment.
use Rattle.std.proofs.Common.{◌≤◌, List, ◌∷◌, length, Option, Some, None, arith}
use Rattle.std.specs.Prelude.{IfSome}
use Rattle.world.specs.declared.entry.Entry.{Entry}
use Rattle.world.specs.declared.entry.Entry.TheVariants as made
use Rattle.world.specs.Moments.{Since, start, Told}
use Rattle.world.proofs.MomentsLemmas.{since_length}

-- no journal is longer than what it became
pub too_long : {P : List Entry → Type 0} {entry : Entry} {y : List Entry} → Since P (entry ∷ y) y → ⊥
too_long {P} {entry} {y} s =
    let less : length (entry ∷ y) ≤ length y = since_length s in
    omega (arith, less)

-- they add since the moment before them
pub told_by : (P : List Entry → Type 0) (p q : Option (List Entry)) → ((since : List Entry) → IfSome p (Since P since) → IfSome q (Since P since))
    → Told p q (Since P)
told_by P p None adds = record { so = tt }
told_by P None (Some y) adds = absurd (too_long (adds (made.Moment 0 ∷ y) tt))
told_by P (Some x) (Some y) adds = record { so = adds x start }
