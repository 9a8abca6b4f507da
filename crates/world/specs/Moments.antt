-- What is said of each moment of a call. A journal has its newest entry first.
use Rattle.std.specs.Prelude.{◌≡◌, ℕ, ◌-◌, length, drop, List, ◌∷◌, Option, IfSome, IsSomeAnd}
use Rattle.world.specs.declared.entry.Entry.{Entry}

-- the journal after a call is that before it with more entries, and at each of them P held of the journal up to it
pub data Since (P : List Entry → Type 0) (before : List Entry) : List Entry → Type 0 where
  start : Since P before before
  more : {past : List Entry} {entry : Entry} → Since P before past → P (entry ∷ past) → Since P before (entry ∷ past)

-- where it is told after, it was told before, and the two are related so
pub record Told (old new : Option (List Entry)) (R : List Entry → List Entry → Type 0) : Type 0 where
  pub so : IfSome new (λ after. IsSomeAnd old (λ before. R before after))

-- where it is told after the call, it was told before, and has this one entry more
abbrev pub Tells : Option (List Entry) → Option (List Entry) → Entry → Type 0
Tells old new entry = Told old new (λ before after. after ≡ entry ∷ before)

-- the journal's first t entries
abbrev pub upto : ℕ → List Entry → List Entry
upto t journal = drop (length journal - t) journal
