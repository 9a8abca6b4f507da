-- The deadlines of a job and their looks (nbclient, `timeout`, `startup_timeout`, `interrupt_on_timeout`).
use Rattle.std.specs.Prelude.{ℕ, suc, List, [], ◌∷◌, length, drop, Option, Some, None, is_some, is_none, option_map, Bool, true, false, if◌then◌else◌, ◌&&◌, not, ◌+◌}
use Rattle.cell_core.specs.declared.event.Event.{Event}
use Rattle.cell_core.specs.declared.event.Event.TheVariants.{Reply}
use Rattle.cell_core.specs.Task.{Task}
use Rattle.cell_core.specs.Events.{is_moment, is_looked, is_broken, is_lost, is_turn_at, came, ever, look_since, since, time, start_time}
use Rattle.cell_core.specs.Requests.{after, has_idle, own, reply, Standing}

-- 10,000 ms from the clock entry that brings an interrupt
abbrev pub interrupt_ms : ℕ
interrupt_ms = 10000

-- 4,000 ms from a reply to its idle
abbrev pub idle_ms : ℕ
idle_ms = 4000

-- how many events ago the reply came, it counted
abbrev pub reply_age : List Event → ℕ
reply_age [] = 0
reply_age (Reply fatal ∷ past) = if is_some (reply past) then suc (reply_age past) else 1
reply_age (_ ∷ past) = suc (reply_age past)

-- the clock when the request came to stand, and when its reply came
abbrev pub stood_at : Standing → List Event → ℕ
stood_at last events = time (drop (length last.later) events)

-- the clock when its reply came
abbrev pub replied_at : Standing → List Event → ℕ
replied_at last events = time (drop (reply_age last.later) events)

-- the request's deadline, and that after its interrupt
abbrev pub first_deadline : Task → Standing → List Event → Option ℕ
first_deadline task last events = option_map (λ limit. stood_at last events + limit) task.times.limit_ms

-- 10,000 ms past the clock entry after which these events came
abbrev pub entry_and_more : List Event → Option (List Event) → Option ℕ
entry_and_more events None = None
entry_and_more events (Some later) = Some (time (drop (length later) events) + interrupt_ms)

-- 10,000 ms past the first clock entry at or past the deadline
abbrev pub second_deadline : ℕ → List Event → Option ℕ
second_deadline deadline events = entry_and_more events (since (is_turn_at deadline) events)

-- neither a clock entry nor a look came in between
abbrev pub is_first_look : Option (List Event) → Bool
is_first_look None = false
is_first_look (Some between) = not (came is_moment between) && not (came is_looked between)

-- no reply came since the request came to stand
abbrev pub is_unanswered : Option (List Event) → Bool
is_unanswered None = true
is_unanswered (Some later) = is_none (reply later)

-- The interrupt of request k is queued just now: this is the first look after the first clock entry at or past the
-- deadline, with no clock entry between, no reply came, no stream is broken and the kernel isn't lost.
abbrev pub queues : Task → ℕ → ℕ → List Event → Bool
queues task k deadline [] = false
queues task k deadline (event ∷ past) =
    is_looked event && is_first_look (since (is_turn_at deadline) past) && is_unanswered (after task k past) && not (came is_broken past) && not (ever is_lost past)

-- the interrupt of request k was queued
abbrev pub is_queued : Task → ℕ → ℕ → List Event → Bool
is_queued task k deadline events = ever (queues task k deadline) events

-- The deadline that stands. A reply answers that of the request, an idle that of the reply, and a queued interrupt the first.
abbrev pub by_limit : Task → ℕ → Option ℕ → List Event → Option ℕ
by_limit task k None events = None
by_limit task k (Some first) events = if task.times.interrupt && is_queued task k first events then second_deadline first events else Some first

-- the deadline that stands while a request does
abbrev pub deadline : Task → Standing → List Event → Option ℕ
deadline task last events =
    if is_some (reply last.later) then (if has_idle (own last.later) then None else Some (replied_at last events + idle_ms))
    else by_limit task last.request (first_deadline task last events) events

-- the deadline of readiness, by when the child was started
abbrev pub start_from : Task → Option ℕ → Option ℕ
start_from task start = option_map (λ t. t + task.times.start_ms) start

-- the deadline of readiness, where the child was started
abbrev pub start_deadline : Task → List Event → Option ℕ
start_deadline task events = start_from task (start_time events)

-- a turn's clock entry at or past the deadline was read
abbrev pub passed_by : Option ℕ → List Event → Bool
passed_by None events = false
passed_by (Some deadline) events = ever (is_turn_at deadline) events

-- a look was done after a turn's clock entry at or past the deadline
abbrev pub looked_by : Option ℕ → List Event → Bool
looked_by None events = false
looked_by (Some deadline) events = look_since (is_turn_at deadline) events
