-- What is told of a call together.
use Rattle.std.proofs.Common.{List, ◌∷◌, Option, Some, None, IfSome, IsSomeAnd, sym, subst}
use Rattle.world.specs.declared.entry.Entry.{Entry}
use Rattle.world.specs.Moments.{Told, Tells}
use Rattle.world.proofs.MomentsLemmas.{told_both, told_as}

-- what holds of the journal after a call
now_at : (j : Option (List Entry)) (i : Option (List Entry)) (R : List Entry → List Entry → Type 0) (P : List Entry → Type 0)
    → IfSome j (λ after. IsSomeAnd i (λ before. R before after)) → IfSome j P
    → IfSome j (λ after. IsSomeAnd i (λ before. R before after × P after))
now_at None i R P r p = tt
now_at (Some y) None R P r p = absurd r
now_at (Some y) (Some x) R P r p = (r, p)

pub told_now : {i j : Option (List Entry)} {R : List Entry → List Entry → Type 0} {P : List Entry → Type 0} → Told i j R
    → IfSome j P
    → Told i j (λ before after. R before after × P after)
told_now {i} {j} {R} {P} r p = record { so = now_at j i R P r.so p }

-- what holds of the journal before a call
from_at : (j : Option (List Entry)) (i : Option (List Entry)) (R : List Entry → List Entry → Type 0) (P : List Entry → Type 0)
    → IfSome j (λ after. IsSomeAnd i (λ before. R before after)) → IfSome i P
    → IfSome j (λ after. IsSomeAnd i (λ before. R before after × P before))
from_at None i R P r p = tt
from_at (Some y) None R P r p = absurd r
from_at (Some y) (Some x) R P r p = (r, p)

pub told_from : {i j : Option (List Entry)} {R : List Entry → List Entry → Type 0} {P : List Entry → Type 0} → Told i j R
    → IfSome i P
    → Told i j (λ before after. R before after × P before)
told_from {i} {j} {R} {P} r p = record { so = from_at j i R P r.so p }

-- one call, what holds of the journal after it, and what else is known of it
pub tells_with : {i j : Option (List Entry)} {R Q : List Entry → List Entry → Type 0} {entry : Entry} (P : List Entry → Type 0)
    → Tells i j entry → Told i j Q → IfSome j P
    → ((past : List Entry) → Q past (entry ∷ past) → P (entry ∷ past) → R past (entry ∷ past)) → Told i j R
tells_with {R = R} {Q = Q} {entry = entry} P s q p so =
    told_as (told_both s (told_now {P = P} q p)) (λ x y h. subst (λ w. R x w) (sym h.0) (so x (subst (λ w. Q x w) h.0 h.1.0) (subst (λ w. P w) h.0 h.1.1)))

-- one call, and what else is known of it
pub tells_both : {i j : Option (List Entry)} {R Q : List Entry → List Entry → Type 0} {entry : Entry} → Tells i j entry
    → Told i j Q
    → ((past : List Entry) → Q past (entry ∷ past) → R past (entry ∷ past)) → Told i j R
tells_both {R = R} {Q = Q} {entry = entry} s q so = told_as (told_both s q) (λ x y h. subst (λ w. R x w) (sym h.0) (so x (subst (λ w. Q x w) h.0 h.1)))

-- one call, and what holds of the journal after it
pub tells_now : {i j : Option (List Entry)} {R : List Entry → List Entry → Type 0} {entry : Entry} (P : List Entry → Type 0)
    → Tells i j entry → IfSome j P → ((past : List Entry) → P (entry ∷ past) → R past (entry ∷ past)) → Told i j R
tells_now {R = R} {entry = entry} P s p so = told_as (told_now {P = P} s p) (λ x y h. subst (λ w. R x w) (sym h.0) (so x (subst (λ w. P w) h.0 h.1)))
