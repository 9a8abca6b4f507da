-- What keeps a run awake: the rules of its loop, of the journal of these jobs (edge-triggered readiness, epoll(7): what was reported is read
-- until it is dry).
use Rattle.std.specs.Prelude.{ℕ, ◌+◌, ◌-◌, ◌==◌, ◌&&◌, ◌||◌, List, [], ◌∷◌, ◌++◌, Bool, true, false, not, Option, Some, None, if◌then◌else◌, length, map, flat_map, nat_lt, nat_le, min, count_by, is_some, option_map, option_to_list, IsTrue}
use Rattle.std.specs.List.{list_any, list_all}
use Rattle.world.specs.declared.chan.Chan.{Chan}
use Rattle.world.specs.declared.conn.Conn.{Conn}
use Rattle.world.specs.declared.did.Did.TheVariants as did
use Rattle.world.specs.declared.entry.Entry.{Entry}
use Rattle.world.specs.declared.entry.Entry.TheVariants as made
use Rattle.world.specs.Places.{is_at, is_read, is_write, time}
use Rattle.world.specs.Waits.{is_after_wait, has_wait, before_wait, to_wait, since_wait}
use Rattle.kernel_talk.specs.Asking.{next_ask}
use Rattle.kernel_talk.specs.Pinging.{next_ping}
use Rattle.cell_core.specs.Deadlines.{interrupt_ms, idle_ms}
use Rattle.run_journal.specs.Job.{Job}
use Rattle.run_journal.specs.Parts.{channels, place, connection, bytes_put, saves_of, begins, is_running, before_shut}
use Rattle.run_journal.specs.Arrivals.{ask_state, is_ready, can_ask}
use Rattle.run_journal.specs.Looks.{is_drained, ever, shows_lost, is_past, pings, pinged_of, can_ping}
use Rattle.run_journal.specs.Requests.{Request, reply, is_over, requests, deadline, first_clock, last_request}
use Rattle.run_journal.specs.Why.{why, child_clock}
use Rattle.run_journal.specs.Saves.{saves}
use Rattle.run_journal.specs.Due.{dues, all_along}

-- ---- deadlines that are not answered

-- the deadline of readiness, from the child's start: none once the kernel is ready
abbrev pub start_deadline : Job → List Entry → List ℕ
start_deadline j past = if is_ready j past then [] else option_to_list (option_map (λ ms. ms + j.task.times.start_ms) (child_clock j past))

-- the deadline of a request's reply: its first one, or the one that its interrupt sets, once that is queued
abbrev pub reply_deadline : Job → List Entry → Request → Option ℕ → List ℕ
reply_deadline j past r None = []
reply_deadline j past r (Some at) = if r.interrupted then option_to_list (option_map (λ ms. ms + interrupt_ms) (first_clock at past)) else at ∷ []

-- the deadline of a request: of its idle once its reply has come, and of its reply before that
abbrev pub wait_deadline : Job → List Entry → Request → Option ℕ → List ℕ
wait_deadline j past r (Some clock) = if is_over r then [] else (clock + idle_ms) ∷ []
wait_deadline j past r None = reply_deadline j past r (deadline j r)

-- the deadline of the last request, where one stands
abbrev pub request_deadline : Job → List Entry → Option (ℕ × Request) → List ℕ
request_deadline j past None = []
request_deadline j past (Some r) = wait_deadline j past r.1 (option_map (λ m. m.1) (reply r.1))

-- the deadlines that stand
abbrev pub deadlines : Job → List Entry → List ℕ
deadlines j past = start_deadline j past ++ request_deadline j past (last_request 0 (requests j past))

-- a turn's clock entry at or past one of these moments was read
abbrev pub has_passed : List ℕ → List Entry → Bool
has_passed ats past = list_any (λ at. ever (is_past at) past) ats

-- A last look at the job is called for: it is running, and its kernel was found lost, or a deadline that stands was passed.
abbrev pub is_called_for : Job → List Entry → Bool
is_called_for j past = is_running j past && (ever (shows_lost j) past || has_passed (deadlines j past) past)

-- ---- timers

-- the next request whether the kernel is ready
abbrev pub next_asking : Job → List Entry → List ℕ
next_asking j past = option_to_list (next_ask (ask_state j past) (can_ask j past) (time past))

-- the next ping
abbrev pub next_pings : Job → List Entry → List ℕ
next_pings j past = option_to_list (next_ping (pinged_of (pings j past)) (can_ping j past) (time past))

-- 200 ms from a refusal to the next connect
abbrev pub again_ms : ℕ
again_ms = 200

-- the next connects of refused connections
abbrev pub next_connects : Job → List Entry → List ℕ
next_connects j past = flat_map (λ c. option_to_list (option_map (λ ms. ms + again_ms) (connection j c past).refused)) channels

-- the timers of a running job
abbrev pub timers : Job → List Entry → List ℕ
timers j past = if is_running j past then next_connects j past ++ next_asking j past ++ next_pings j past ++ deadlines j past else []

-- the least of a number and those of a list
abbrev pub least : ℕ → List ℕ → ℕ
least n [] = n
least n (x ∷ xs) = least (min n x) xs

-- the limit of a wait: the milliseconds to the next timer, and at most 500
abbrev pub wait_limit : List Job → List Entry → ℕ
wait_limit jobs past = least 500 (map (λ at. at - time past) (flat_map (λ j. timers j past) jobs))

-- ---- words of the rules

-- the one implies the other
abbrev pub implies : Bool → Bool → Bool
implies p q = if p then q else true

-- a test holds of each connection of each job
abbrev pub each_connection : List Job → (Job → Chan → Bool) → Bool
each_connection jobs test = list_all (λ j. list_all (test j) channels) jobs

-- a test holds of some connection
abbrev pub some_connection : List Job → (Job → Chan → Bool) → Bool
some_connection jobs test = list_any (λ j. list_any (test j) channels) jobs

-- a connection is awake
abbrev pub is_awake : List Entry → Job → Chan → Bool
is_awake past j c = (connection j c past).awake

-- a connection is open to writing, and not all that is due was taken
abbrev pub has_due : List Entry → Job → Chan → Bool
has_due past j c = (connection j c past).writable && nat_lt (length (bytes_put j c past)) (length (dues j c past))

-- a connection is the job's of a channel
abbrev pub is_its : Job → Chan → Conn → Bool
is_its j c conn = is_at (place j c) conn

-- an entry closes the connection
abbrev pub is_closed : Job → Chan → Entry → Bool
is_closed j c (made.Closed conn) = is_its j c conn
is_closed j c _ = false

-- an entry tries to begin it
abbrev pub is_connect : Job → Chan → Entry → Bool
is_connect j c (made.Connected conn port how) = is_its j c conn
is_connect j c _ = false

-- an entry looks at the job's child
abbrev pub is_look : Job → Entry → Bool
is_look j (made.Looked job status) = job == j.number
is_look j _ = false

-- a last look at some job is called for
abbrev pub is_look_due : List Job → List Entry → Bool
is_look_due jobs past = list_any (λ j. is_called_for j past) jobs

-- a refused connection may be begun again: long enough after the last clock entry before its refusal, or in a last look
abbrev pub may_begin_again : Job → List Entry → Option ℕ → Bool
may_begin_again j past None = false
may_begin_again j past (Some ms) = nat_le (ms + again_ms) (time past) || is_called_for j past

-- ---- the rules, each of the newest entry

-- what a read made is of an awake connection, and what a write made of one that is open to writing
abbrev pub in_order : List Job → List Entry → Bool
in_order jobs [] = true
in_order jobs (entry ∷ past) =
    each_connection jobs (λ j c.
    implies (is_read (place j c) entry) (connection j c past).awake && implies (is_write (place j c) entry) (connection j c past).writable)

-- a wait with a limit comes only where nothing can go on, and its limit is that of the next timer
abbrev pub waits_last : List Job → List Entry → Bool
waits_last jobs (made.Waited ms reports did ∷ past) =
    implies (nat_lt 0 ms) (not (some_connection jobs (is_awake past)) && not (some_connection jobs (has_due past)) && ms == wait_limit jobs past)
waits_last jobs _ = true

-- a wait without one comes only where something can go on
abbrev pub waits_short : List Job → List Entry → Bool
waits_short jobs (made.Waited ms reports did ∷ past) =
    implies (ms == 0)
    (some_connection jobs (is_awake past) || list_any (λ at. nat_le at (time past)) (flat_map (λ j. timers j past) jobs) || is_look_due jobs past)
waits_short jobs _ = true

-- before a wait each connection that was awake after the one before it was read to its end, closed, or read 64 times
abbrev pub reads_all : List Job → List Entry → Bool
reads_all jobs (made.Waited ms reports did ∷ past) =
    each_connection jobs (λ j c. implies (is_awake (to_wait past) j c) (is_drained j c past || list_any (is_closed j c) (since_wait past)))
reads_all jobs _ = true

-- no connection is read more than 64 times between two waits
abbrev pub reads_few : List Job → List Entry → Bool
reads_few jobs past = each_connection jobs (λ j c. nat_le (connection j c past).count 64)

-- at a wait some job is running, and of each that is, all due saves are acknowledged and nothing has stopped it
abbrev pub keeps_up : List Job → List Entry → Bool
keeps_up jobs (made.Waited ms reports did ∷ past) =
    list_any (λ j. is_running j past) jobs
    && list_all (λ j. implies (is_running j past) (saves_of j past == length (saves j past) && not (is_some (why j (before_shut j past))))) jobs
keeps_up jobs _ = true

-- the clock is read directly after a done wait at which no last look is called for, and after the first wait only there
abbrev pub reads_clock : List Job → List Entry → Bool
reads_clock jobs (made.Moment ms ∷ made.Waited limit reports did.Done ∷ past) = not (is_look_due jobs past)
reads_clock jobs (made.Moment ms ∷ past) = not (has_wait past) || is_after_wait past
reads_clock jobs (entry ∷ made.Waited limit reports did.Done ∷ past) = is_look_due jobs past
reads_clock jobs _ = true

-- a last look waits with limit 0; after another wait each running job's child was looked at once before the next
abbrev pub looks_once : List Job → List Entry → Bool
looks_once jobs (made.Waited ms reports did ∷ past) =
    implies (is_look_due jobs past) (ms == 0)
    && implies (has_wait past && not (is_look_due jobs (before_wait past)))
    (list_all (λ j. implies (is_running j past) (count_by (is_look j) (since_wait past) == 1)) jobs)
looks_once jobs _ = true

-- before a wait each refused connection of a running job that may be begun again was tried since the wait before it, and what
-- is due was offered
abbrev pub begins_again : List Job → List Entry → Bool
begins_again jobs (made.Waited ms reports did ∷ past) =
    each_connection jobs (λ j c. implies (is_running j past)
    (implies (may_begin_again j past (connection j c past).refused) (list_any (is_connect j c) (since_wait past))
    && implies (has_due past j c) (list_any (is_write (place j c)) (since_wait past))))
begins_again jobs _ = true

-- a connection is begun again only where it is refused and may be
abbrev pub begins_refused : List Job → List Entry → Bool
begins_refused jobs (made.Connected conn port how ∷ past) =
    each_connection jobs (λ j c. implies (is_its j c conn && list_any (is_connect j c) past) (may_begin_again j past (connection j c past).refused))
begins_refused jobs _ = true

-- the first connect of each job comes before the first wait
abbrev pub begins_early : List Job → List Entry → Bool
begins_early jobs (made.Connected conn port how ∷ past) = list_all (λ j. implies (conn.job == j.number && has_wait past) (list_any (begins j) past)) jobs
begins_early jobs _ = true

-- a read hands in 65,536 bytes of room
abbrev pub has_room : List Entry → Bool
has_room (made.Got conn room bytes ∷ past) = room == 65536
has_room _ = true

-- at every moment each of these rules is kept
pub record Awake (jobs : List Job) (journal : List Entry) : Type 0 where
  pub only_awake : IsTrue (all_along (in_order jobs) journal)
  pub waits_last_of_all : IsTrue (all_along (waits_last jobs) journal)
  pub short_for_a_cause : IsTrue (all_along (waits_short jobs) journal)
  pub reads_each : IsTrue (all_along (reads_all jobs) journal)
  pub reads_no_more : IsTrue (all_along (reads_few jobs) journal)
  pub up_to_date : IsTrue (all_along (keeps_up jobs) journal)
  pub clock : IsTrue (all_along (reads_clock jobs) journal)
  pub looks : IsTrue (all_along (looks_once jobs) journal)
  pub again : IsTrue (all_along (begins_again jobs) journal)
  pub only_refused : IsTrue (all_along (begins_refused jobs) journal)
  pub early : IsTrue (all_along (begins_early jobs) journal)
  pub room : IsTrue (all_along has_room journal)
