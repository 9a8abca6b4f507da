-- What has stopped a job by now (nbclient: `CellTimeoutError`, `DeadKernelError`, `CellExecutionError`, `startup_timeout`).
use Rattle.std.specs.Prelude.{ℕ, ◌+◌, ◌==◌, ◌&&◌, List, [], ◌∷◌, Bool, false, not, Option, Some, None, if◌then◌else◌, length, nat_lt, nat_le, is_some, option_map}
use Rattle.world.specs.declared.chan.Chan.{Chan}
use Rattle.world.specs.declared.chan.Chan.TheVariants.{Shell, Control, Iopub, Heart}
use Rattle.world.specs.declared.entry.Entry.{Entry}
use Rattle.world.specs.declared.entry.Entry.TheVariants as made
use Rattle.world.specs.Places.{time}
use Rattle.cell_core.specs.declared.why.Why.{Why}
use Rattle.cell_core.specs.declared.why.Why.TheVariants as cause
use Rattle.cell_core.specs.Deadlines.{interrupt_ms, idle_ms}
use Rattle.run_journal.specs.Job.{Job, Given, Refuses, Prepares, Runs}
use Rattle.run_journal.specs.Parts.{bytes_got, saves_of}
use Rattle.run_journal.specs.Looks.{is_lost, ran_out}
use Rattle.run_journal.specs.Requests.{Request, reply, is_over, is_fatal, is_last_passed, requests, last_request, or_later, first_clock, deadline}

-- ---- the rows

-- the cells that the plan settles
abbrev pub plan_end : List ℕ → ℕ
plan_end [] = 0
plan_end (i ∷ []) = i + 1
plan_end (i ∷ k ∷ plan) = plan_end (k ∷ plan)

-- how many saves are due where nothing is to run: that of the whole notebook is one of its own where there are cells
abbrev pub plain_count : Job → Given → ℕ
plain_count j (Refuses status text) = 0
plain_count j (Prepares text) = 1
plain_count j Runs = if j.task.cells == 0 then 1 else 2

-- at least one save is due, and all due saves are acknowledged
abbrev pub are_acked : ℕ → ℕ → Bool
are_acked due count = nat_lt 0 due && nat_le due count

-- nothing was to run, and all saves are acknowledged; or each request of the plan is over, the last reply not fatal
abbrev pub is_done : Job → ℕ → List Request → Bool
is_done j count rs =
    if length j.task.plan == 0 then are_acked (plain_count j j.given) count
    else length rs == length j.task.plan && is_last_passed j 0 rs

-- the last request is over, and its reply is fatal
abbrev pub is_error : Job → Option (ℕ × Request) → Bool
is_error j None = false
is_error j (Some r) = is_over r.1 && is_fatal j r.0 (reply r.1)

-- a connection that breaks its grammar, with the number and the place of the fault
pub record BadStream : Type 0 where
  pub chan : Chan
  pub number : ℕ
  pub at : ℕ

-- a connection with the number and the place of its fault
abbrev pub bad_by : Chan → ℕ × ℕ → BadStream
bad_by c fault = record { chan = c; number = fault.0; at = fault.1 }

-- how a connection breaks its grammar, if it does
abbrev pub fault_on : Job → List Entry → Chan → Option BadStream
fault_on j past c = option_map (bad_by c) (j.codec.fault c (bytes_got j c past))

-- the first connection that breaks its grammar, in the order of the channels
unfoldable pub bad_stream : Job → List Entry → Option BadStream
bad_stream j past =
    or_later (fault_on j past Shell) (or_later (fault_on j past Control) (or_later (fault_on j past Iopub) (fault_on j past Heart)))

-- an entry starts the job's child
abbrev pub starts : Job → Entry → Bool
starts j (made.Started job argv env dir did) = job == j.number
starts j _ = false

-- the clock before the child was started
abbrev pub child_clock : Job → List Entry → Option ℕ
child_clock j [] = None
child_clock j (entry ∷ past) = or_later (child_clock j past) (if starts j entry then Some (time past) else None)

-- a look is done after a turn's clock entry so many milliseconds past a clock, where there is one
abbrev pub is_out : Job → ℕ → Option ℕ → List Entry → Bool
is_out j more None past = false
is_out j more (Some clock) past = ran_out j (clock + more) past

-- no request stands, and a look is done after the time to start has passed
abbrev pub is_not_ready : Job → List Request → List Entry → Bool
is_not_ready j [] past = is_out j j.task.times.start_ms (child_clock j past) past
is_not_ready j (r ∷ rs) past = false

-- the last request has a reply and isn't over, and a look is done after the time for its idle has passed
abbrev pub is_no_idle : Job → Option (ℕ × Request) → List Entry → Bool
is_no_idle j None past = false
is_no_idle j (Some r) past = not (is_over r.1) && is_out j idle_ms (option_map (λ m. m.1) (reply r.1)) past

-- the deadline at which a request stops the job: with an interrupt that was queued, so long past the clock entry that
-- brought it
abbrev pub last_deadline : Job → Request → List Entry → Option ℕ → Option ℕ
last_deadline j r past None = None
last_deadline j r past (Some at) =
    if j.task.times.interrupt then (if r.interrupted then option_map (λ ms. ms + interrupt_ms) (first_clock at past) else None) else Some at

-- the last request has no reply, and its time is over
abbrev pub is_timed_out : Job → Option (ℕ × Request) → List Entry → Bool
is_timed_out j None past = false
is_timed_out j (Some r) past = not (is_some (reply r.1)) && is_out j 0 (last_deadline j r.1 past (deadline j r.1)) past

-- ---- the first row that holds

-- a cause, where its condition holds
abbrev pub cause_if : Bool → Why → Option Why
cause_if holds why = if holds then Some why else None

-- what has stopped the job, if something has
abbrev pub why : Job → List Entry → Option Why
why j past =
    or_later (cause_if (is_done j (saves_of j past) (requests j past)) cause.Done)
    (or_later (cause_if (is_error j (last_request 0 (requests j past))) cause.CellError)
    (or_later (cause_if (is_some (bad_stream j past)) cause.BadPeer)
    (or_later (cause_if (is_lost j past) cause.KernelLost)
    (or_later (cause_if (is_not_ready j (requests j past) past) cause.NotReady)
    (or_later (cause_if (is_no_idle j (last_request 0 (requests j past)) past) cause.NoIdle)
    (cause_if (is_timed_out j (last_request 0 (requests j past)) past) cause.TimedOut))))))
