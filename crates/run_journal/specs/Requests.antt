-- The requests of a job that stand, each with what came for it (nbclient, `async_execute_cell`; Jupyter messaging 5.3, "Execute").
use Rattle.std.specs.Prelude.{ℕ, ◌+◌, ◌==◌, ◌&&◌, ◌||◌, List, [], ◌∷◌, ◌++◌, Bool, true, false, not, Option, Some, None, if◌then◌else◌, length, map, filter, nat_lt, is_some, count_by, option_map}
use Rattle.std.specs.List.{list_any}
use Rattle.std.specs.Str.{bytes_eq}
use Rattle.world.specs.declared.chan.Chan.TheVariants.{Shell, Iopub}
use Rattle.world.specs.declared.entry.Entry.{Entry}
use Rattle.world.specs.Places.{time}
use Rattle.world.specs.Waits.{before_wait, moment_of}
use Rattle.jcontent.specs.declared.content.Content.{Content}
use Rattle.jcontent.specs.declared.content.Content.TheVariants as content
use Rattle.out_fold.specs.declared.message.Message.{Message}
use Rattle.out_fold.specs.declared.used.Used.{Used}
use Rattle.out_fold.specs.Cells.{says_idle}
use Rattle.run_journal.specs.Codec.{Arrival}
use Rattle.run_journal.specs.Job.{Job}
use Rattle.run_journal.specs.Parts.{channels, bytes_got, turn_clock, saves_of, is_acknowledging}
use Rattle.run_journal.specs.Arrivals.{arrive, ask_state, is_ready}
use Rattle.run_journal.specs.Looks.{is_look, is_lost, is_past}

-- a request that stands
pub record Request : Type 0 where
  pub number : ℕ  -- its message's number among those of the job
  pub clock : ℕ  -- the clock when it came to stand
  pub io : List Arrival  -- what came for it on IOPub by later entries
  pub replies : List (Arrival × ℕ)  -- the execute replies that came for it by later entries, each with the clock before it
  pub interrupted : Bool  -- its interrupt was queued

-- it is an `execute_reply`
abbrev pub is_exec_reply : Content → Bool
is_exec_reply (content.ExecReply reply) = true
is_exec_reply _ = false

-- the parent is this message of the job
abbrev pub is_parent : Job → ℕ → Option (List ℕ) → Bool
is_parent j number None = false
is_parent j number (Some parent) = bytes_eq (j.msg_id number) parent

-- ---- what is used

-- messages up to and with the first idle
abbrev pub through_idle : List Arrival → List Arrival
through_idle [] = []
through_idle (m ∷ ms) = if says_idle m.content then m ∷ [] else m ∷ through_idle ms

-- an idle is among them
abbrev pub has_idle : List Arrival → Bool
has_idle ms = list_any (λ m. says_idle m.content) ms

-- a request's own messages
abbrev pub own : Request → List Arrival
own r = through_idle r.io

-- the first of a list
abbrev pub first : {X : Type 0} → List X → Option X
first [] = None
first (x ∷ xs) = Some x

-- a request's reply, with the clock before it
abbrev pub reply : Request → Option (Arrival × ℕ)
reply r = first r.replies

-- a message as the fold takes it
abbrev pub as_used : Arrival → Message
as_used m = record { content = m.content; date = m.date }

-- the date of a reply that has come
abbrev pub reply_date : Option (Arrival × ℕ) → Option (List ℕ)
reply_date None = None
reply_date (Some m) = m.0.date

-- what is used for the request of a cell
abbrev pub use_of : ℕ → Request → Used
use_of cell r = record { cell = cell; own = map as_used (own r); reply = reply_date (reply r) }

-- what is used for these requests, of the cells of the plan in order
abbrev pub used_of : List ℕ → List Request → List Used
used_of (i ∷ plan) (r ∷ rs) = use_of i r ∷ used_of plan rs
used_of plan rs = []

-- ---- when a request is over

-- its reply and its idle have come
abbrev pub is_over : Request → Bool
is_over r = has_idle r.io && is_some (reply r)

-- the reply to request k, counted from 0, has come and stops the run
abbrev pub is_fatal : Job → ℕ → Option (Arrival × ℕ) → Bool
is_fatal j k None = false
is_fatal j k (Some m) = j.fatal k m.0.content

-- request k is over, and its reply isn't fatal
abbrev pub is_passed : Job → ℕ → Request → Bool
is_passed j k r = is_over r && not (is_fatal j k (reply r))

-- the last of these requests, of which the first is request k, is passed
abbrev pub is_last_passed : Job → ℕ → List Request → Bool
is_last_passed j k [] = false
is_last_passed j k (r ∷ []) = is_passed j k r
is_last_passed j k (r ∷ s ∷ rs) = is_last_passed j (k + 1) (s ∷ rs)

-- ---- interrupts

-- a connection of the job breaks its grammar
unfoldable pub is_broken : Job → List Entry → Bool
is_broken j past = list_any (λ c. is_some (j.codec.fault c (bytes_got j c past))) channels

-- the first of two that is there
abbrev pub or_later : {X : Type 0} → Option X → Option X → Option X
or_later (Some x) later = Some x
or_later None later = later

-- the first turn's clock entry at or past a moment
abbrev pub first_clock : ℕ → List Entry → Option ℕ
first_clock deadline [] = None
first_clock deadline (entry ∷ past) =
    or_later (first_clock deadline past) (if is_past deadline (entry ∷ past) then turn_clock (entry ∷ past) else None)

-- what came before the last clock entry
abbrev pub before_clock : List Entry → List Entry
before_clock [] = []
before_clock (entry ∷ past) = if is_some (moment_of entry) then past else before_clock past

-- the last clock entry is the first at or past the deadline, and a look at the job followed it
abbrev pub just_ran_out : Job → ℕ → List Entry → Bool
just_ran_out j deadline past =
    is_look j past && is_some (first_clock deadline (before_wait past)) && not (is_some (first_clock deadline (before_clock past)))

-- the first deadline of a request, where a limit is given
abbrev pub deadline : Job → Request → Option ℕ
deadline j r = option_map (λ limit. r.clock + limit) j.task.times.limit_ms

-- the last clock entry is the first at or past a deadline, where there is one, and a look at the job followed it
abbrev pub is_just_out : Job → List Entry → Option ℕ → Bool
is_just_out j past None = false
is_just_out j past (Some at) = just_ran_out j at past

-- An interrupt is queued once a look followed the first clock entry at or past the deadline and no clock entry came since;
-- only where no reply has come, no stream is broken, and the kernel isn't lost.
unfoldable pub is_interrupted : Job → List Entry → Request → Bool
is_interrupted j past r =
    j.task.times.interrupt && not (is_some (reply r)) && is_just_out j past (deadline j r) && not (is_broken j past) && not (is_lost j past)

-- ---- the requests

-- a request with what came for it: messages on IOPub, and on shell, with the clock before them
abbrev pub with_news : Job → Request → List Arrival → List Arrival → ℕ → Request
with_news j r iopub shell clock = record {
  number = r.number;
  clock = r.clock;
  interrupted = r.interrupted;
  io = r.io ++ filter (λ m. is_parent j r.number m.parent) iopub;
  replies = r.replies ++ map (λ m. (m, clock)) (filter (λ m. is_exec_reply m.content && is_parent j r.number m.parent) shell);
}

-- a request with its interrupt, if that is queued now
abbrev pub with_interrupt : Job → List Entry → Request → Request
with_interrupt j now r = record { number = r.number; clock = r.clock; io = r.io; replies = r.replies; interrupted = r.interrupted || is_interrupted j now r }

-- what an entry makes of a request that stands
abbrev pub goes_on : Job → Entry → List Entry → Request → Request
goes_on j entry past r = with_interrupt j (entry ∷ past) (with_news j r (arrive j Iopub entry past) (arrive j Shell entry past) (time past))

-- The next request comes to stand: the first at the later of readiness and the first acknowledged save, each later one at the
-- sync that acknowledges the save after the request before it, which is over with a reply that isn't fatal.
abbrev pub is_next : Job → Bool → Bool → ℕ → List Request → Bool
is_next j acknowledged ready saves [] = ready && nat_lt 0 saves && nat_lt 0 (length j.task.plan)
is_next j acknowledged ready saves (r ∷ rs) =
    acknowledged && is_last_passed j 0 (r ∷ rs) && saves == length (r ∷ rs) + 1 && nat_lt (length (r ∷ rs)) (length j.task.plan)

-- how many messages with a number were queued, by the asking and the requests
abbrev pub count_queued : ℕ → List Request → ℕ
count_queued asked rs = asked + length rs + count_by (λ r. r.interrupted) rs

-- a request that comes to stand
abbrev pub fresh : ℕ → ℕ → Request
fresh number clock = record { number = number; clock = clock; io = []; replies = []; interrupted = false }

-- one more request, where it comes to stand
abbrev pub with_next : Bool → Request → List Request → List Request
with_next next r rs = if next then rs ++ r ∷ [] else rs

-- these requests, and the next one where it comes to stand at an entry
abbrev pub and_next : Job → Entry → List Entry → List Request → List Request
and_next j entry past rs =
    with_next (is_next j (is_acknowledging j (entry ∷ past)) (is_ready j (entry ∷ past)) (saves_of j (entry ∷ past)) rs)
    (with_interrupt j (entry ∷ past) (fresh (count_queued (length (ask_state j (entry ∷ past)).ids) rs + 1) (time past))) rs

-- the requests that stand by now, in order
abbrev pub requests : Job → List Entry → List Request
requests j [] = []
requests j (entry ∷ past) = and_next j entry past (map (goes_on j entry past) (requests j past))

-- the last of these with its number, where the first is request k
abbrev pub last_request : ℕ → List Request → Option (ℕ × Request)
last_request k [] = None
last_request k (r ∷ []) = Some (k, r)
last_request k (r ∷ s ∷ rs) = last_request (k + 1) (s ∷ rs)
