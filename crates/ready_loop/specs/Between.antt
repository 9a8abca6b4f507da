-- What was read between two waits, by the journal, its newest entry first.
use Rattle.std.specs.Prelude.{◌≡◌, ◌⊎◌, ◌||◌, ◌<◌, ◌≤◌, ℕ, List, [], ◌∷◌, Bool, true, false, if◌then◌else◌}
use Rattle.world.specs.declared.entry.Entry.{Entry}
use Rattle.world.specs.declared.entry.Entry.TheVariants as made
use Rattle.world.specs.Places.{is_at, status}
use Rattle.world.specs.Waits.{is_wait, to_wait}

-- an entry ends the reading of a place: nothing more is there, or it was closed
abbrev pub ends_reading : ℕ → Entry → Bool
ends_reading p (made.Dry conn) = is_at p conn
ends_reading p (made.Ended conn by) = is_at p conn
ends_reading p (made.Refused conn by) = is_at p conn
ends_reading p (made.Closed conn) = is_at p conn
ends_reading p _ = false

-- some entry since the last wait ended the reading of a place
abbrev pub was_ended : ℕ → List Entry → Bool
was_ended p [] = false
was_ended p (entry ∷ past) = if is_wait entry then false else ends_reading p entry || was_ended p past

-- each connection that was awake after the last wait was read to its end, or gave bytes 64 times
pub record ReadsAll (past : List Entry) : Type 0 where
  pub each : (p : ℕ) → p < 64 → (status p (to_wait past)).awake ≡ true
      → (was_ended p past ≡ true) ⊎ (64 ≤ (status p past).count)
