-- The order of last looks and clock entries: each look that was asked for is done before the clock is read again (nbclient reads what had
-- arrived before it calls a cell timed out or a kernel dead).
use Rattle.std.specs.Prelude.{List, [], ◌∷◌, ◌++◌, true, false, ◌≡◌, ◌≢◌, ◌≤◌, ◌⊎◌}
use Rattle.cell_core.specs.declared.event.Event.{Event}
use Rattle.cell_core.specs.declared.event.Event.TheVariants.{Moment}
use Rattle.cell_core.specs.declared.act.Act.TheVariants.{Look}
use Rattle.cell_core.specs.Task.{Task}
use Rattle.cell_core.specs.Events.{is_saved, is_looked, came, time}
use Rattle.cell_core.specs.Acts.{act_of, awaits_saved, due_of, has_stopped, heard}

-- The deadline that a clock entry passed stands no more: a reply, an idle, readiness or a queued interrupt answered it.
abbrev pub IsAnswered : Task → Event → List Event → List Event → Type 0
IsAnswered task (Moment t) before now = due_of task (Moment t ∷ before) ≢ due_of task now
IsAnswered task event before now = ⊥

-- Since each act that asked for a last look one was done, or the deadline at whose clock entry it was asked for was answered.
abbrev pub IsLookedThrough : Task → List Event → Type 0
IsLookedThrough task now =
    (later : List Event) (event : Event) (before : List Event) → now ≡ later ++ event ∷ before → act_of task event before ≡ Look
    → (came is_looked later ≡ true) ⊎ IsAnswered task event before now

-- The clock never falls, and is read only once each last look that was asked for is done.
abbrev pub IsInTurn : Task → Event → List Event → Type 0
IsInTurn task (Moment t) past = has_stopped task (heard task past) ≡ false → (time (heard task past) ≤ t) × IsLookedThrough task past
IsInTurn task event past = Unit {0}

-- Each event comes where it may, and the clock is read in turn.
abbrev pub TakesTurns : Task → List Event → Type 0
TakesTurns task [] = Unit {0}
TakesTurns task (event ∷ past) = (is_saved event ≡ awaits_saved task past) × IsInTurn task event past × TakesTurns task past
