-- How a job has ended, by the journal: what its requests tell of the cause, what was saved by then, and what its answer says (papermill and
-- nbclient; the statuses are nbrun's own).
use Rattle.std.specs.Prelude.{◌≡◌, ◌+◌, ℕ, ◌==◌, Bool, true, false, List, [], map, Option, Some, None, if◌then◌else◌, is_some, nat_le, option_map, IsSomeAnd}
use Rattle.world.specs.declared.entry.Entry.{Entry}
use Rattle.world.specs.Places.{time}
use Rattle.world.specs.declared.chan.Chan.{Chan}
use Rattle.said_lines.specs.Lines.{spoken_line}
use Rattle.zmtp_wire.specs.declared.fault.WireFault.{WireFault}
use Rattle.zmtp_wire.specs.Fault.{clip, number_of, place_of}
use Rattle.cell_core.specs.declared.why.Why.{Why}
use Rattle.cell_core.specs.declared.why.Why.TheVariants as why
use Rattle.cell_core.specs.Deadlines.{idle_ms}
use Rattle.cell_core.specs.Events.{ever}
use Rattle.job_end.specs.declared.answer.Answer.{Answer}
use Rattle.run_journal.specs.Job.{Job}
use Rattle.run_journal.specs.Parts.{saves_of}
use Rattle.run_journal.specs.Agreement.{is_at_once}
use Rattle.run_journal.specs.Requests.{Request, deadline, is_broken, is_over, last_request, reply, requests}
use Rattle.run_journal.specs.Saves.{Save, renamed_texts, run_saves}
use Rattle.run_journal.specs.Why.{BadStream, bad_by, fault_on, is_done, is_error}
use Rattle.run_journal.specs.Ends.{BadPeer, end_by, reason}
use Rattle.job_journal.specs.Plot.{Plot, facts}
use Rattle.job_journal.specs.Standing.{HasEndedAs}

-- ---- the cause

-- the cause that a status names (the exit statuses of nbrun)
abbrev pub cause_of : ℕ → Option Why
cause_of n =
    if n == 0 then Some why.Done else if n == 1 then Some why.CellError else if n == 7 then Some why.NotReady else if n == 8 then Some why.KernelLost
    else if n == 9 then Some why.TimedOut else if n == 13 then Some why.NoIdle else if n == 15 then Some why.BadPeer else None

-- not each request of the plan is passed, and no reply to the last one stops the run
pub record IsUnfinished (j : Job) (now : List Entry) : Type 0 where
  pub plan : is_done j (saves_of j now) (requests j now) ≡ false
  pub reply : is_error j (last_request 0 (requests j now)) ≡ false

-- the last request has a reply, and its idle hasn't come
abbrev pub LacksIdle : Option (ℕ × Request) → Type 0
LacksIdle None = ⊥
LacksIdle (Some r) = (is_some (reply r.1) ≡ true) × (is_over r.1 ≡ false)

-- the last request has no reply
abbrev pub LacksReply : Option (ℕ × Request) → Type 0
LacksReply None = ⊥
LacksReply (Some r) = is_some (reply r.1) ≡ false

-- What the requests of the journal tell of a cause (nbclient). Where all is executed each request of the plan has its reply and its idle, and no
-- reply stops the run. With an error the last request has both, and its reply stops the run. Where the kernel was never ready no request stands.
-- Where a time is over, the last request lacks its idle or its reply. A loss and a broken stream come before the plan is executed, and before an error.
abbrev pub ShowsCause : Job → Why → List Entry → Type 0
ShowsCause j why.Done now = is_done j (saves_of j now) (requests j now) ≡ true
ShowsCause j why.CellError now = is_error j (last_request 0 (requests j now)) ≡ true
ShowsCause j why.NotReady now = requests j now ≡ []
ShowsCause j why.NoIdle now = LacksIdle (last_request 0 (requests j now))
ShowsCause j why.TimedOut now = LacksReply (last_request 0 (requests j now))
ShowsCause j why.KernelLost now = IsUnfinished j now
ShowsCause j why.BadPeer now = IsUnfinished j now

-- ---- the stop

-- The job of a plot has stopped for this cause, and its requests tell of it. The texts that were renamed onto its output are exactly those of the
-- saves that are due then, in order.
pub record HasStoppedFor (p : Plot) (cause : Why) (now : List Entry) : Type 0 where
  pub shown : ShowsCause (facts p) cause now
  pub texts : renamed_texts (facts p) now ≡ map (λ (s : Save). Some s.text) (run_saves (facts p) (requests (facts p) now) (Some cause))

-- ---- broken streams

-- no stream of a job is broken by the journal (RFC 23)
abbrev pub IsWhole : Job → List Entry → Type 0
IsWhole j now = is_broken j now ≡ false

-- the stream of this channel with the number and the place that this fault tells
abbrev pub bad_with : Chan → WireFault → BadStream
bad_with c f = record { chan = c; number = number_of f; at = place_of f }

-- A stream of the job is broken by the journal, with a fault of this number (RFC 23). Its place is that of the octet that breaks it, and stands still
-- at 2 ^ 64 - 1.
pub record IsBrokenAs (j : Job) (bad : BadStream) (now : List Entry) : Type 0 where
  pub at : ℕ
  pub fault : fault_on j now bad.chan ≡ Some (bad_by bad.chan (bad.number, at))
  pub place : bad.at ≡ clip at

-- ---- times that are over

-- the journal's clock has come to this moment
abbrev pub has_come : ℕ → List Entry → Bool
has_come at now = ever (λ past. nat_le at (time past)) now

-- there is a deadline, and the journal's clock has come to it
abbrev pub HasPassed : Option ℕ → List Entry → Type 0
HasPassed due now = IsSomeAnd due (λ at. has_come at now ≡ true)

-- the deadline of the last request's reply, where a limit is given: so long after the request came to stand (nbclient, `timeout`)
abbrev pub reply_due : Job → Option (ℕ × Request) → Option ℕ
reply_due j None = None
reply_due j (Some r) = deadline j r.1

-- the deadline of the last request's idle: 4,000 ms after its reply (nbclient, `iopub_timeout`)
abbrev pub idle_due : Option (ℕ × Request) → Option ℕ
idle_due None = None
idle_due (Some r) = option_map (λ m. m.1 + idle_ms) (reply r.1)

-- By the journal's clock the time for a reply is over where a job has stopped for an overrun, and the time for an idle where it lacks one.
abbrev pub IsTimeOver : Job → Why → List Entry → Type 0
IsTimeOver j why.TimedOut now = HasPassed (reply_due j (last_request 0 (requests j now))) now
IsTimeOver j why.NoIdle now = HasPassed (idle_due (last_request 0 (requests j now))) now
IsTimeOver j _ now = Unit {0}

-- What holds where a loss or a time that is over has stopped a job. A broken stream stops a job before these do: no stream of it is broken. The time is
-- over.
pub record IsLateStop (j : Job) (cause : Why) (now : List Entry) : Type 0 where
  pub whole : IsWhole j now
  pub over : IsTimeOver j cause now

-- ---- the answer

-- A line names a stream that is broken by the journal: its channel, the number of its fault, and the place of the octet that breaks it.
pub record NamesBroken (p : Plot) (line : List ℕ) (now : List Entry) : Type 0 where
  pub bad : BadStream
  pub broken : IsBrokenAs (facts p) bad now
  pub says : line ≡ spoken_line p.ask.output (reason (BadPeer bad))

-- A line says how a job ends that stops for this cause: with the cell of the last request, with the exception that its reply names, or with the
-- stream that is broken.
abbrev pub SaysCause : Plot → Why → List ℕ → List Entry → Type 0
SaysCause p why.BadPeer line now = NamesBroken p line now
SaysCause p cause line now = line ≡ spoken_line p.ask.output (reason (end_by (facts p) now cause))

-- The job of a plot has stopped for this cause, and this line says so. Where a loss or a time that is over has stopped it, no stream of the job is
-- broken, and that time is over.
pub record IsStopSaid (p : Plot) (cause : Why) (line : List ℕ) (now : List Entry) : Type 0 where
  pub stopped : HasStoppedFor p cause now
  pub late : is_at_once cause ≡ false → IsLateStop (facts p) cause now
  pub says : SaysCause p cause line now

-- The job of a plot has ended with this answer. The texts that were saved are the first of the saves that are due. Where the status names a cause,
-- the job has stopped for it, and its line says so.
pub record HasAnswered (p : Plot) (a : Answer) (now : List Entry) : Type 0 where
  pub ended : HasEndedAs p now
  pub stopped : (cause : Why) → cause_of a.status ≡ Some cause → IsStopSaid p cause a.line now
