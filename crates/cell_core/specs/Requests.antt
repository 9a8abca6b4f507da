-- When a request stands, what is used for it, and when it is over (Jupyter messaging 5.3, "Messages on the shell channel"; nbclient).
use Rattle.std.specs.Prelude.{ℕ, zero, suc, List, [], ◌∷◌, length, Option, Some, None, is_some, Bool, true, false, if◌then◌else◌, ◌&&◌, not, nat_lt, ◌==◌, ◌+◌}
use Rattle.cell_core.specs.declared.event.Event.{Event}
use Rattle.cell_core.specs.declared.event.Event.TheVariants.{Io, Reply}
use Rattle.cell_core.specs.declared.brief.Brief.{Brief}
use Rattle.cell_core.specs.declared.brief.Brief.TheVariants.{Idle, Else}
use Rattle.cell_core.specs.Task.{Task}
use Rattle.cell_core.specs.Events.{is_saved, is_ready, came, ack_count, since}

-- First of what came after a request came to stand, and before the next did: all of it has this request as parent.

-- an idle is among the messages
abbrev pub has_idle : List Brief → Bool
has_idle [] = false
has_idle (Idle ∷ past) = true
has_idle (Else ∷ past) = has_idle past

-- its own messages: those up to and with the first idle
abbrev pub own : List Event → List Brief
own [] = []
own (Io message ∷ past) = if has_idle (own past) then own past else message ∷ own past
own (_ ∷ past) = own past

-- its reply: the first, and whether it is fatal
abbrev pub reply : List Event → Option Bool
reply [] = None
reply (Reply fatal ∷ past) = if is_some (reply past) then reply past else Some fatal
reply (_ ∷ past) = reply past

-- a request is over where its reply is there and its own messages end with an idle
abbrev pub is_over : List Event → Bool
is_over later = is_some (reply later) && has_idle (own later)

-- there is a reply, and it is fatal
abbrev pub is_true_in : Option Bool → Bool
is_true_in None = false
is_true_in (Some fatal) = fatal

-- the reply is there and fatal
abbrev pub is_fatal : List Event → Bool
is_fatal later = is_true_in (reply later)

-- over, and the reply isn't fatal
abbrev pub is_passed : List Event → Bool
is_passed later = is_over later && not (is_fatal later)

-- the request stands, is over, and its reply isn't fatal
abbrev pub is_passed_in : Option (List Event) → Bool
is_passed_in None = false
is_passed_in (Some later) = is_passed later

-- The first request comes to stand at the later of readiness and the first acknowledged save.
abbrev pub both_came : List Event → Bool
both_came now = came is_ready now && nat_lt 0 (ack_count now)

-- Request k + 1 comes to stand at the acknowledgement of save number k + 2, where request k, of which this came since
-- it stood, is over and its reply isn't fatal, and the plan goes on.
abbrev pub is_next : Task → ℕ → (List Event → Option (List Event)) → List Event → Bool
is_next task k since_k [] = false
is_next task k since_k (event ∷ past) = is_saved event && ack_count past == k + 1 && is_passed_in (since_k past) && nat_lt (k + 1) (length task.plan)

-- What came after request k came to stand: none where it doesn't stand.
abbrev pub after : Task → ℕ → List Event → Option (List Event)
after task zero = since both_came
after task (suc k) = since (is_next task k (after task k))

-- The last request that stands, and what came since.
pub record Standing : Type 0 where
  pub request : ℕ
  pub later : List Event

-- request k where it stands, and else the one before
abbrev pub or_before : ℕ → Option (List Event) → Option Standing → Option Standing
or_before k (Some later) before = Some (record { request = k; later = later })
or_before k None before = before

-- the last request below k that stands
abbrev pub last_below : Task → ℕ → List Event → Option Standing
last_below task zero events = None
last_below task (suc k) events = or_before k (after task k events) (last_below task k events)

-- the last request that stands
abbrev pub standing : Task → List Event → Option Standing
standing task events = last_below task (length task.plan) events
