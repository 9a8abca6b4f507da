-- The causes by time, by the deadline that stands.
use Rattle.std.proofs.Common.{◌≡◌, ℕ, ◌+◌, List, Bool, true, false, not, ◌&&◌, if◌then◌else◌, Option, Some, None, is_some, is_none, refl, sym, ap}
use Rattle.std.proofs.Math.Bool.{and-true, and-false}
use Rattle.cell_core.specs.declared.event.Event.{Event}
use Rattle.cell_core.specs.declared.why.Why.TheVariants.{NoIdle, TimedOut}
use Rattle.cell_core.specs.Task.{Task}
use Rattle.cell_core.specs.Events.{is_turn_at, look_since}
use Rattle.cell_core.specs.Requests.{has_idle, own, reply, Standing}
use Rattle.cell_core.specs.Deadlines.{replied_at, first_deadline, second_deadline, is_queued, by_limit, deadline, looked_by}
use Rattle.cell_core.specs.Saves.{is_out_of_time, late_cause}

-- the deadline's look brings an interrupt
abbrev pub queued_by : Task → ℕ → Option ℕ → List Event → Bool
queued_by task k None events = false
queued_by task k (Some first) events = is_queued task k first events

abbrev pub is_interruptible : Task → Standing → List Event → Bool
is_interruptible task last events =
    is_none (reply last.later) && task.times.interrupt && not (queued_by task last.request (first_deadline task last events) events)

out_by : (b q : Bool) (first : ℕ) (second : Option ℕ) (events : List Event)
    → (if b then q && looked_by second events else look_since (is_turn_at first) events) ≡ (looked_by (if b && q then second else Some first) events && not (b && not q))
out_by false q first second events = sym (and-true (look_since (is_turn_at first) events))
out_by true true first second events = sym (and-true (looked_by second events))
out_by true false first second events = sym (and-false (look_since (is_turn_at first) events))

out_is : (task : Task) (k : ℕ) (o : Option ℕ) (events : List Event)
    → is_out_of_time task k o events ≡ (looked_by (by_limit task k o events) events && not (task.times.interrupt && not (queued_by task k o events)))
out_is task k None events = refl
out_is task k (Some first) events = out_by task.times.interrupt (is_queued task k first events) first (second_deadline first events) events

late_same : (events : List Event) (v : Option Bool) (i : Bool) (d : ℕ) (limit : Option ℕ) (out inter q : Bool) → out ≡ (looked_by limit events && not (inter && not q))
    → (if is_some v && not (is_some v && i) && look_since (is_turn_at d) events then Some NoIdle else if is_none v && out then Some TimedOut else None)
    ≡ (if looked_by (if is_some v then (if i then None else Some d) else limit) events && not (is_none v && inter && not q) then Some (if is_some v then NoIdle else TimedOut) else None)
late_same events (Some f) true d limit out inter q e = refl
late_same events (Some f) false d limit out inter q e = ap (λ (b : Bool). if b then Some NoIdle else None) (sym (and-true (look_since (is_turn_at d) events)))
late_same events None i d limit out inter q e = ap (λ (b : Bool). if b then Some TimedOut else None) e

-- a look after the deadline that stands is a cause, unless it brings an interrupt
pub late_is : (task : Task) (last : Standing) (events : List Event)
    → late_cause task (Some last) events ≡ (if looked_by (deadline task last events) events && not (is_interruptible task last events) then Some (if is_some (reply last.later) then NoIdle else TimedOut) else None)
late_is task last events =
    late_same events (reply last.later) (has_idle (own last.later)) (replied_at last events + 4000) (by_limit task last.request (first_deadline task last events) events) _ task.times.interrupt
    (queued_by task last.request (first_deadline task last events) events) (out_is task last.request (first_deadline task last events) events)
