-- The requests that the core of a job knows by its events, and those of the journal, agree.
use Rattle.std.specs.Prelude.{◌≡◌, ◌⊎◌, ℕ, ◌<◌, ◌≤◌, ◌==◌, ◌&&◌, ◌||◌, not, List, [], ◌∷◌, length, Bool, true, false, Option, is_some, option_map, slice_get, nat_lt, nat_le, IsSomeAnd, None, Some, if◌then◌else◌}
use Rattle.std.specs.List.{list_all}
use Rattle.world.specs.declared.chan.Chan.{Chan}
use Rattle.world.specs.declared.did.Did.TheVariants as did
use Rattle.world.specs.declared.entry.Entry.{Entry}
use Rattle.world.specs.declared.entry.Entry.TheVariants as made
use Rattle.world.specs.Places.{is_at, is_reported, time}
use Rattle.world.specs.Waits.{is_wait, has_wait, to_wait}
use Rattle.cell_core.specs.declared.why.Why.{Why}
use Rattle.cell_core.specs.declared.why.Why.TheVariants as cause
use Rattle.cell_core.specs.declared.event.Event.{Event}
use Rattle.cell_core.specs.declared.event.Event.TheVariants as event
use Rattle.cell_core.specs.Events as events
use Rattle.cell_core.specs.Acts.{is_empty_list}
use Rattle.cell_core.specs.Requests as core
use Rattle.cell_core.specs.Deadlines.{stood_at, replied_at}
use Rattle.run_journal.specs.Codec.{Arrival}
use Rattle.run_journal.specs.Job.{Job}
use Rattle.run_journal.specs.Parts.{place, connection, bytes_got, saves_of, is_acknowledging, begins}
use Rattle.run_journal.specs.Arrivals.{is_ready}
use Rattle.run_journal.specs.Requests.{Request, has_idle, reply, or_later, first_clock, requests, last_request}
use Rattle.run_journal.specs.Why.{starts, child_clock, why}
use Rattle.run_journal.specs.Due.{all_along}
use Rattle.run_journal.specs.Order.{is_nothing, begins_unread}
use Rattle.run_journal.specs.Awake.{Awake}
use Rattle.run_journal.specs.Course.{came_for, course}
use Rattle.run_journal.specs.OfJob.{is_number}

-- What the core was told since request k came to stand is what came for it: whether its idle did, and whether its reply did
-- and is fatal.
pub record AgreesOn (j : Job) (k : ℕ) (later : List Event) (r : Request) : Type 0 where
  pub idle : core.has_idle (core.own later) ≡ has_idle r.io
  pub reply : core.reply later ≡ option_map (λ m. j.fatal k m.0.content) (reply r)

-- The events, the newest first, tell as many acknowledged saves as the journal, whether the kernel is ready, and the same
-- requests.
pub record Agrees (j : Job) (told : List Event) (past : List Entry) : Type 0 where
  pub acked : events.ack_count told ≡ saves_of j past
  pub ready : events.came events.is_ready told ≡ is_ready j past
  pub standing : (k : ℕ) (r : Request) → slice_get (requests j past) k ≡ Some r → IsSomeAnd (core.after j.task k told) (λ later. AgreesOn j k later r)
  pub none : (k : ℕ) → k < length j.task.plan → length (requests j past) ≤ k → core.after j.task k told ≡ None

-- an event that is neither an acknowledgement nor readiness nor what comes for a request
pub data IsOther : Event → Type 0 where
  moment : (ms : ℕ) → IsOther (event.Moment ms)
  looked : IsOther event.Looked
  lost : IsOther event.Lost
  broken : IsOther event.Broken

-- after these events, told one after another
abbrev pub told_on : List Event → List Event → List Event
told_on [] told = told
told_on (e ∷ es) told = told_on es (e ∷ told)

-- no byte comes by an entry
abbrev pub BringsNothing : Job → Entry → List Entry → Type 0
BringsNothing j entry past = (c : Chan) → bytes_got j c (entry ∷ past) ≡ bytes_got j c past

-- an event is of the clock, a look, a loss or a broken stream
abbrev pub is_other : Event → Bool
is_other (event.Moment ms) = true
is_other event.Looked = true
is_other event.Lost = true
is_other event.Broken = true
is_other _ = false

-- an event of the clock, a look or a loss
abbrev pub is_of_looks : Event → Bool
is_of_looks (event.Moment ms) = true
is_of_looks event.Looked = true
is_of_looks event.Lost = true
is_of_looks _ = false

-- only events of the clock, looks, losses and broken streams wait to be told, and only the first three came after the stop
abbrev pub is_told : Job → List Entry → Bool
is_told j past = list_all is_other (course j past).held && list_all is_of_looks (course j past).unheard

-- at every moment only events of the clock, looks, losses and broken streams wait, and only the first three came after the stop
abbrev pub Flows : Job → List Entry → Type 0
Flows j past = all_along (is_told j) past ≡ true

-- nothing came after the stop
abbrev pub is_heard : Job → List Entry → Bool
is_heard j past = is_empty_list (course j past).unheard

-- at every moment nothing has come after the stop
abbrev pub IsHeard : Job → List Entry → Type 0
IsHeard j past = all_along (is_heard j) past ≡ true

-- an event of the clock or of a look
abbrev pub is_dated : Event → Bool
is_dated (event.Moment ms) = true
is_dated event.Looked = true
is_dated event.Saved = false
is_dated event.Ready = false
is_dated (event.Io b) = false
is_dated (event.Reply f) = false
is_dated event.Lost = false
is_dated event.Broken = false

-- no clock entry and no look came after the stop; a loss may have
abbrev pub hears_looks : Job → List Entry → Bool
hears_looks j past = not (events.came is_dated (course j past).unheard)

-- at every moment no clock entry and no look has come after the stop
abbrev pub HearsLooks : Job → List Entry → Type 0
HearsLooks j past = all_along (hears_looks j) past ≡ true

-- where the newest entry is a wait, nothing waits for the end of a look
abbrev pub ends_looks : Job → List Entry → Bool
ends_looks j [] = true
ends_looks j (entry ∷ past) = not (is_wait entry) || is_empty_list (course j past).late

-- each look is over before the next wait: at no wait an event still waits for the end of a look
abbrev pub EndsLooks : Job → List Entry → Type 0
EndsLooks j past = all_along (ends_looks j) past ≡ true

-- The core's clock at which request k came to stand, and that at its reply, stand in this relation to those of the journal.
pub record ClocksOnBy (agrees : ℕ → ℕ → Type 0) (k : ℕ) (told later : List Event) (r : Request) : Type 0 where
  pub stood : agrees (stood_at (record { request = k; later = later }) told) r.clock
  pub replied : (m : Arrival × ℕ) → reply r ≡ Some m → agrees (replied_at (record { request = k; later = later }) told) m.1

-- the same of each request that stands
abbrev pub ClocksBy : (ℕ → ℕ → Type 0) → Job → List Event → List Entry → Type 0
ClocksBy agrees j told past = (k : ℕ) (r : Request) → slice_get (requests j past) k ≡ Some r → IsSomeAnd (core.after j.task k told) (λ later. ClocksOnBy agrees k told later r)

-- The core has the clock at which request k came to stand, and that at its reply.
abbrev pub ClocksOn : ℕ → List Event → List Event → Request → Type 0
ClocksOn k told later r = ClocksOnBy (λ m n. m ≡ n) k told later r

-- the core has the clock at which each request came to stand, and that at its reply
abbrev pub Clocks : Job → List Event → List Entry → Type 0
Clocks j told past = ClocksBy (λ m n. m ≡ n) j told past

-- an entry brings a message or a reply for the last request, or makes the kernel ready
abbrev pub brings : Job → Entry → List Entry → Bool
brings j entry past = not (is_empty_list (came_for j (last_request 0 (requests j past)) entry past)) || (is_ready j (entry ∷ past) && not (is_ready j past))

-- a request comes to stand with an entry
abbrev pub stands_anew : Job → Entry → List Entry → Bool
stands_anew j entry past = nat_lt (length (requests j past)) (length (requests j (entry ∷ past)))

-- where a request comes to stand with an acknowledged save, the clock that was told last is the journal's; where the newest
-- entry brings something for the requests, so is that which is told once nothing waits
abbrev pub keeps_time : Job → List Entry → Bool
keeps_time j [] = true
keeps_time j (entry ∷ past) =
    (not (is_acknowledging j (entry ∷ past) && stands_anew j entry past) || events.time (course j past).told == time past)
    && (not (brings j entry past) || events.time (told_on (course j past).held (course j past).told) == time past)

-- at every moment the clock that was told last is the journal's, wherever it counts for a request
abbrev pub KeepsTime : Job → List Entry → Type 0
KeepsTime j past = all_along (keeps_time j) past ≡ true

-- a cause that needs neither the clock nor a look: an executed plan, a fatal reply or a broken stream
abbrev pub is_at_once : Why → Bool
is_at_once cause.Done = true
is_at_once cause.CellError = true
is_at_once cause.BadPeer = true
is_at_once _ = false

-- the cause, where it is one that needs neither the clock nor a look
abbrev pub at_once : Option Why → Option Why
at_once None = None
at_once (Some why) = if is_at_once why then Some why else None

-- no clock entry and no look came after the stop, or it was a stop at once
abbrev pub hears : Job → List Entry → Bool
hears j past = hears_looks j past || is_some (at_once (why j past))

-- at every moment no clock entry and no look has come after the stop, or the stop needs neither
abbrev pub Hears : Job → List Entry → Type 0
Hears j past = all_along (hears j) past ≡ true

-- a cause that no deadline brings
abbrev pub is_undated : Why → Bool
is_undated cause.Done = true
is_undated cause.CellError = true
is_undated cause.BadPeer = true
is_undated cause.KernelLost = true
is_undated _ = false

-- no connection of the job was begun again after bytes were got on it
abbrev pub BeginsUnread : Job → List Entry → Type 0
BeginsUnread j past = (c : Chan) → all_along (begins_unread j c) past ≡ true

-- ---- what the causes by a deadline need

-- a job is one of these
abbrev pub IsAmong : Job → List Job → Type 0
IsAmong j [] = ⊥
IsAmong j (k ∷ jobs) = (j ≡ k) ⊎ IsAmong j jobs

-- the newest entry doesn't take the clock back
abbrev pub rises : List Entry → Bool
rises [] = true
rises (entry ∷ past) = nat_le (time past) (time (entry ∷ past))

-- an entry draws the job's ports
abbrev pub draws : Job → Entry → Bool
draws j (made.Ports job ports) = job == j.number
draws j _ = false

-- the clock before the job's ports were drawn first
abbrev pub drawn_clock : Job → List Entry → Option ℕ
drawn_clock j [] = None
drawn_clock j (entry ∷ past) = or_later (drawn_clock j past) (if draws j entry then Some (time past) else None)

-- The job's ports are drawn once, after its first save was acknowledged; its child is started by the same clock; and its
-- connections are begun after that.
abbrev pub starts_in_turn : Job → List Entry → Bool
starts_in_turn j [] = true
starts_in_turn j (entry ∷ past) =
    (not (draws j entry) || (not (is_some (drawn_clock j past)) && nat_lt 0 (saves_of j past)))
    && ((not (starts j entry) || is_number (time past) (drawn_clock j past))
    && (not (begins j entry) || is_some (child_clock j past)))

-- The loop keeps its rules over these jobs, of which this is one; the clock doesn't fall, and the job starts in turn.
pub record KeepsRules (jobs : List Job) (j : Job) (past : List Entry) : Type 0 where
  pub among : IsAmong j jobs
  pub awake : Awake jobs past
  pub rising : all_along rises past ≡ true
  pub start : all_along (starts_in_turn j) past ≡ true

-- ---- what follows from the loop's rules

-- an entry is made by bytes that were got for the job
abbrev pub is_got : Job → Entry → Bool
is_got j (made.Got conn room bytes) = conn.job == j.number
is_got j _ = false

-- bytes come only after a turn's clock entry
abbrev pub reads_late : Job → List Entry → Bool
reads_late j [] = true
reads_late j (entry ∷ past) = not (is_got j entry) || is_some (first_clock 0 past)

-- no clock entry waits for a save
abbrev pub holds_no_clock : Job → List Entry → Bool
holds_no_clock j past = not (events.came events.is_moment (course j past).held)

-- the newest entry is a done wait
abbrev pub is_done_wait : List Entry → Bool
is_done_wait (made.Waited ms reports did.Done ∷ past) = true
is_done_wait _ = false

-- a wait comes only after done ones
abbrev pub waits_on : List Entry → Bool
waits_on [] = true
waits_on (entry ∷ past) = not (is_wait entry && has_wait past) || is_done_wait (to_wait past)

-- a wait reports the connection only while it is up, and it is refused only before a byte was got on it
abbrev pub tells_rightly : Job → Chan → List Entry → Bool
tells_rightly j c (made.Waited ms reports did ∷ past) = not (is_reported (place j c) reports.ready) || (connection j c past).up
tells_rightly j c (made.Refused conn by ∷ past) = not (is_at (place j c) conn) || is_nothing (bytes_got j c past)
tells_rightly j c _ = true

-- at every moment, waits report a connection of the job only while it is up, and it is refused only before a byte was got on it
abbrev pub TellsRightly : Job → List Entry → Type 0
TellsRightly j past = (c : Chan) → all_along (tells_rightly j c) past ≡ true
