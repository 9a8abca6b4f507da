-- Lists of events, the newest first: what a job is told of its kernel (Jupyter messaging 5.3). What came before an event is the rest of the list,
-- so a definition by cases on the list looks only at what came before, and one more event is one more at the front.
use Rattle.std.specs.Prelude.{ℕ, List, [], ◌∷◌, Option, Some, None, Bool, true, false, ◌+◌, if◌then◌else◌, ◌||◌, ◌&&◌, nat_le, ◌≤◌, is_some}
use Rattle.cell_core.specs.declared.event.Event.{Event}
use Rattle.cell_core.specs.declared.event.Event.TheVariants.{Saved, Ready, Moment, Looked, Lost, Broken}

-- a save was acknowledged
abbrev pub is_saved : Event → Bool
is_saved Saved = true
is_saved _ = false

-- the kernel is ready
abbrev pub is_ready : Event → Bool
is_ready Ready = true
is_ready _ = false

-- a stream broke
abbrev pub is_broken : Event → Bool
is_broken Broken = true
is_broken _ = false

-- the clock was read
abbrev pub is_moment : Event → Bool
is_moment (Moment t) = true
is_moment _ = false

-- a last look is done
abbrev pub is_looked : Event → Bool
is_looked Looked = true
is_looked _ = false

-- whether such an event came
abbrev pub came : {A : Type 0} → (A → Bool) → List A → Bool
came test [] = false
came test (event ∷ past) = test event || came test past

-- how many saves were acknowledged
abbrev pub ack_count : List Event → ℕ
ack_count [] = 0
ack_count (event ∷ past) = if is_saved event then ack_count past + 1 else ack_count past

-- what came since, with one more event
abbrev pub since_more : {A : Type 0} → (List A → Bool) → A → List A → Option (List A) → Option (List A)
since_more test event past (Some later) = Some (event ∷ later)
since_more test event past None = if test (event ∷ past) then Some [] else None

-- What came after the first moment at which the test held. A moment is the list up to and with an event.
abbrev pub since : {A : Type 0} → (List A → Bool) → List A → Option (List A)
since test [] = None
since test (event ∷ past) = since_more test event past (since test past)

-- whether the test held at some moment
abbrev pub ever : {A : Type 0} → (List A → Bool) → List A → Bool
ever test [] = false
ever test (event ∷ past) = test (event ∷ past) || ever test past

-- whether a last look was done after a moment at which the test held
abbrev pub look_since : (List Event → Bool) → List Event → Bool
look_since test [] = false
look_since test (event ∷ past) = (is_looked event && ever test past) || look_since test past

-- the kernel was just found lost
abbrev pub is_lost : List Event → Bool
is_lost (Lost ∷ past) = true
is_lost _ = false

-- the last clock entry, 0 before the first
abbrev pub time : List Event → ℕ
time [] = 0
time (Moment t ∷ past) = t
time (_ ∷ past) = time past

-- The first clock entry is the child's start, each later one a turn's: whether such a one at or past t was just read.
abbrev pub is_turn_at : ℕ → List Event → Bool
is_turn_at t (Moment now ∷ past) = came is_moment past && nat_le t now
is_turn_at t _ = false

-- the child's start
abbrev pub start_time : List Event → Option ℕ
start_time [] = None
start_time (Moment t ∷ past) = if is_some (start_time past) then start_time past else Some t
start_time (_ ∷ past) = start_time past

-- the clock never falls
abbrev pub Rising : List Event → Type 0
Rising [] = Unit {0}
Rising (Moment t ∷ past) = (time past ≤ t) × Rising past
Rising (_ ∷ past) = Rising past
