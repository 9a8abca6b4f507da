-- Lists, options and tests: what the standard library doesn't say of them, for the crates above.
use Rattle.std.proofs.Common.{◌≡◌, ◌≢◌, ℕ, zero, suc, ◌<◌, ◌≤◌, Bool, true, false, cond, ◌&&◌, ◌||◌, List, [], ◌∷◌, ◌++◌, length, set, slice_get, Option, Some, None, IsSomeAnd, Result, Ok, Err, OnErr, refl, sym, ap, subst, arith}
use Rattle.std.specs.Prelude.{option_map}
use Rattle.std.specs.List.{list_all}
use Rattle.std.proofs.lemmas.Bool.{and_parts, and_from, true≢false}
use Rattle.std.proofs.lemmas.Option.{same_Some}

-- ---- places of a list

module _ {X : Type 0} where
  -- a place below the length has something
  pub some_at : (xs : List X) (i : ℕ) → i < length xs → (x : X) × (slice_get xs i ≡ Some x)
  some_at [] i lt = absurd (omega arith)
  some_at (x ∷ xs) zero lt = (x, refl)
  some_at (x ∷ xs) (suc i) lt = some_at xs i (omega arith)

  -- a place with nothing isn't below it
  pub none_beyond : (xs : List X) (i : ℕ) → slice_get xs i ≡ None → length xs ≤ i
  none_beyond [] i e = omega arith
  none_beyond (x ∷ xs) zero e = cc
  none_beyond (x ∷ xs) (suc i) e = let le = none_beyond xs i e in omega arith

  -- the item behind all others
  pub last_at : (xs : List X) (x : X) → slice_get (xs ++ x ∷ []) (length xs) ≡ Some x
  last_at [] x = refl
  last_at (y ∷ xs) x = last_at xs x

  -- the place that was set
  pub slice_get-set_same : (xs : List X) (i : ℕ) (w : X) → i < length xs → slice_get (set xs i w) i ≡ Some w
  slice_get-set_same [] i w h = absurd (omega arith)
  slice_get-set_same (x ∷ xs) zero w h = refl
  slice_get-set_same (x ∷ xs) (suc i) w h = slice_get-set_same xs i w (omega arith)

  -- and another one
  pub slice_get-set_other : (xs : List X) (i j : ℕ) (w : X) → j ≢ i → slice_get (set xs i w) j ≡ slice_get xs j
  slice_get-set_other [] i j w h = refl
  slice_get-set_other (x ∷ xs) zero zero w h = absurd (h refl)
  slice_get-set_other (x ∷ xs) zero (suc j) w h = refl
  slice_get-set_other (x ∷ xs) (suc i) zero w h = refl
  slice_get-set_other (x ∷ xs) (suc i) (suc j) w h = slice_get-set_other xs i j w (λ e. h (ap suc e))

  -- to set what stands there changes nothing
  pub set_given : (xs : List X) (i : ℕ) (x : X) → slice_get xs i ≡ Some x → set xs i x ≡ xs
  set_given [] i x e = cc
  set_given (y ∷ ys) zero x e = ap (λ z. z ∷ ys) (sym (same_Some y x e))
  set_given (y ∷ ys) (suc i) x e = ap (λ zs. y ∷ zs) (set_given ys i x e)

  -- what passes a test passes a weaker one
  pub all_more : (p q : X → Bool) → ((x : X) → p x ≡ true → q x ≡ true) → (xs : List X) → list_all p xs ≡ true → list_all q xs ≡ true
  all_more p q h [] e = refl
  all_more p q h (x ∷ xs) e =
      let parts = and_parts (p x) (list_all p xs) e in
      and_from (q x) (list_all q xs) (h x parts.0) (all_more p q h xs parts.1)

-- ---- what may be there

-- two functions that agree
pub option_map_alike : {A B : Type 0} (f g : A → B) → ((x : A) → f x ≡ g x) → (o : Option A) → option_map f o ≡ option_map g o
option_map_alike f g e None = refl
option_map_alike f g e (Some x) = ap (λ y. Some y) (e x)

-- it is there, and that holds of it
pub some_and : {A : Type 0} (P : A → Type 0) (o : Option A) (x : A) → o ≡ Some x → P x → IsSomeAnd o P
some_and P o x e p = subst (λ v. IsSomeAnd v P) (sym e) p

-- which one it is
pub some_was : {A : Type 0} (P : A → Type 0) (o : Option A) → IsSomeAnd o P → (x : A) × (o ≡ Some x) × P x
some_was P None h = absurd h
some_was P (Some x) h = (x, refl, h)

-- what holds anyhow holds where there is an error
pub on_err : {T E P : Type 0} → (r : Result T E) → P → OnErr r P
on_err (Ok x) p = tt
on_err (Err e) p = p

-- nothing was chosen: the test failed
pub none_chosen : {A : Type 0} (b : Bool) (x : A) → cond b (Some x) None ≡ None → b ≡ false
none_chosen true x e = cc
none_chosen false x e = refl

-- ---- tests

-- the other one of two holds
pub or_other : (a b : Bool) → a ≡ false → (a || b) ≡ true → b ≡ true
or_other true b e f = absurd (true≢false e)
or_other false b e f = f

-- three hold
pub and_three : (a b c : Bool) → a ≡ true → b ≡ true → c ≡ true → (a && b && c) ≡ true
and_three a b c p q r = and_from (a && b) c (and_from a b p q) r
