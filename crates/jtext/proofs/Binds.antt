-- Steps of readings, undone.
use Rattle.std.proofs.Common.{◌≡◌, ◌⊎◌, Bool, true, false, cond, Option, Some, None, Result, Ok, Err, inl, inr, refl, ap}
use Rattle.jtext.specs.declared.fault.Fault.{Fault}
use Rattle.jtext.specs.declared.fault.Fault.TheVariants.{NoMemory, Bad, Deep, Repeated, Lone}
use Rattle.std.specs.Option.{option_and_then}
use Rattle.jtext.specs.Readings.{◌>>=◌, or_fault}
use Rattle.jtext.specs.Gives.{Fails}

pub bind_ok : {A B : Type 0} (r : Result A Fault) (f : A → Result B Fault) (y : B) → r >>= f ≡ Ok y → (x : A) × (r ≡ Ok x) × (f x ≡ Ok y)
bind_ok (Ok x) f y e = (x, refl, e)
bind_ok (Err g) f y e = absurd (no_ok g y e)
  where
    no_ok : {B : Type 0} (g : Fault) (y : B) → ◌≡◌ {A = Result B Fault} (Err g) (Ok y) → ⊥
    no_ok g y e = cc

pub or_fault_ok : {A : Type 0} (f : Fault) (o : Option A) (x : A) → or_fault f o ≡ Ok x → o ≡ Some x
or_fault_ok f (Some y) x e = cc
or_fault_ok f None x e = cc

-- what two equal options hold
pub some_is : {A : Type 0} (s t : A) → ◌≡◌ {A = Option A} (Some s) (Some t) → s ≡ t
some_is s t e = cc

-- nothing is no option that holds something
pub no_some : {A : Type 0} (t : A) → ◌≡◌ {A = Option A} None (Some t) → ⊥
no_some t e = cc

-- which way a test went
pub chosen : {A : Type 0} (b : Bool) (x y z : A) → cond b x y ≡ z → ((b ≡ true) × (x ≡ z)) ⊎ ((b ≡ false) × (y ≡ z))
chosen true x y z e = inl (refl, e)
chosen false x y z e = inr (refl, e)

-- a fault that is handed on
pub fails_on : {X Y : Type 0} (f : Fault) (r : Result X Fault) (s : Result Y Fault) → (r ≡ Err f → s ≡ Err f) → Fails f r → Fails f s
fails_on NoMemory r s on fails = tt
fails_on (Bad n) r s on fails = on fails
fails_on (Deep n) r s on fails = on fails
fails_on (Repeated n) r s on fails = on fails
fails_on (Lone n) r s on fails = on fails

pub bind_fails : {X Y : Type 0} (f : Fault) (r : Result X Fault) (k : X → Result Y Fault) → Fails f r → Fails f (r >>= k)
bind_fails f r k = fails_on f r (r >>= k) (λ e. ap (λ x. x >>= k) e)

-- a test, with its answer
pub test : (P : Bool → Type 0) (b : Bool) → (b ≡ true → P true) → (b ≡ false → P false) → P b
test P true here there = here refl
test P false here there = there refl

pub and_then_some : {A B : Type 0} (f : A → Option B) (o : Option A) (y : B) → option_and_then f o ≡ Some y → (x : A) × (o ≡ Some x) × (f x ≡ Some y)
and_then_some f (Some x) y e = (x, refl, e)
and_then_some f None y e = absurd (never y e)
  where
    never : {B : Type 0} (y : B) → ◌≡◌ {A = Option B} None (Some y) → ⊥
    never y e = cc
