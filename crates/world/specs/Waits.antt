-- Waits, and what stands before and after the last one, by the journal, its newest entry first.
use Rattle.std.specs.Prelude.{ℕ, ◌+◌, ◌||◌, List, [], ◌∷◌, Bool, true, false, Option, Some, None, if◌then◌else◌}
use Rattle.world.specs.declared.entry.Entry.{Entry}
use Rattle.world.specs.declared.entry.Entry.TheVariants.{Waited, Moment}

-- an entry is a wait
abbrev pub is_wait : Entry → Bool
is_wait (Waited ms reports did) = true
is_wait _ = false

-- there was a wait
abbrev pub has_wait : List Entry → Bool
has_wait [] = false
has_wait (entry ∷ past) = is_wait entry || has_wait past

-- how many waits there were
abbrev pub wait_count : List Entry → ℕ
wait_count [] = 0
wait_count (entry ∷ past) = if is_wait entry then wait_count past + 1 else wait_count past

-- the journal before the last wait
abbrev pub before_wait : List Entry → List Entry
before_wait [] = []
before_wait (entry ∷ past) = if is_wait entry then past else before_wait past

-- the journal up to and with the last wait
abbrev pub to_wait : List Entry → List Entry
to_wait [] = []
to_wait (entry ∷ past) = if is_wait entry then entry ∷ past else to_wait past

-- the entries since the last wait
abbrev pub since_wait : List Entry → List Entry
since_wait [] = []
since_wait (entry ∷ past) = if is_wait entry then [] else entry ∷ since_wait past

-- the moment that an entry of the clock gave
abbrev pub moment_of : Entry → Option ℕ
moment_of (Moment ms) = Some ms
moment_of _ = None

-- the newest entry is a wait
abbrev pub is_after_wait : List Entry → Bool
is_after_wait [] = false
is_after_wait (entry ∷ past) = is_wait entry

-- the moment of a turn's clock entry, which stands directly after a wait, where the newest entry is one
abbrev pub turn_moment : List Entry → Option ℕ
turn_moment [] = None
turn_moment (entry ∷ past) = if is_after_wait past then moment_of entry else None
