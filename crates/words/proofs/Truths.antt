-- Tests that are true, and options that hold nothing.
use Rattle.std.proofs.Common.{◌≡◌, Bool, true, false, cond, Option, Some, None, refl, ap, ◌∙◌}
use Rattle.std.specs.Option.{option_or}

pub no_some : {A : Type 0} (x : A) → ◌≡◌ {A = Option A} (Some x) None → ⊥
no_some x e = cc

pub else_none : {A : Type 0} (b : Bool) (u : A) (r : Option A) → cond b r (Some u) ≡ None → (b ≡ true) × (r ≡ None)
else_none true u r e = (refl, e)
else_none false u r e = absurd (no_some u e)

pub or_none : {A : Type 0} (a b : Option A) → option_or a b ≡ None → (a ≡ None) × (b ≡ None)
or_none None b e = (refl, e)
or_none (Some u) b e = absurd (no_some u e)

pub none_or : {A : Type 0} (a b : Option A) → a ≡ None → b ≡ None → option_or a b ≡ None
none_or a b x y = ap (λ k. option_or k b) x ∙ y
