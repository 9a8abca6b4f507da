-- Where a request stands, and what comes for it, by numbers of positions, counted from 0.
use Rattle.std.specs.Prelude.{◌≡◌, ℕ, ◌+◌, ◌<◌, ◌&&◌, Bool, List, [], ◌∷◌, Option, Some, None, if◌then◌else◌, length, map, filter, nat_le, nat_lt}
use Rattle.world.specs.declared.chan.Chan.TheVariants.{Shell, Iopub}
use Rattle.world.specs.declared.entry.Entry.{Entry}
use Rattle.run_journal.specs.Codec.{Arrival}
use Rattle.run_journal.specs.Job.{Job}
use Rattle.run_journal.specs.Arrivals.{arrivals}
use Rattle.run_journal.specs.Requests.{Request, is_exec_reply, is_parent, requests, or_later}

-- the position of the entry by which so many requests stand
abbrev pub start_at : Job → ℕ → List Entry → Option ℕ
start_at j k [] = None
start_at j k (entry ∷ past) = or_later (start_at j k past) (if nat_le k (length (requests j (entry ∷ past))) then Some (length past) else None)

-- the messages without their positions
abbrev pub alone : List (ℕ × Arrival) → List Arrival
alone arrived = map (λ a. a.1) arrived

-- the messages that arrived at a later position and pass a test
abbrev pub later_with : (Arrival → Bool) → ℕ → List (ℕ × Arrival) → List Arrival
later_with test start arrived = alone (filter (λ a. nat_lt start a.0 && test a.1) arrived)

-- a message with this parent
abbrev pub is_for : Job → ℕ → Arrival → Bool
is_for j number m = is_parent j number m.parent

-- an `execute_reply` with this parent
abbrev pub is_reply_for : Job → ℕ → Arrival → Bool
is_reply_for j number m = is_exec_reply m.content && is_parent j number m.parent

-- Request i, counted from 0, has what arrived with its parent at positions after the one at which it came to stand: on IOPub,
-- and of the replies on shell.
pub record Literally (j : Job) (i : ℕ) (past : List Entry) (r : Request) : Type 0 where
  pub start : ℕ
  pub stands : start_at j (i + 1) past ≡ Some start
  pub early : start < length past
  pub io : r.io ≡ later_with (is_for j r.number) start (arrivals j Iopub past)
  pub replies : map (λ m. m.0) r.replies ≡ later_with (is_reply_for j r.number) start (arrivals j Shell past)
