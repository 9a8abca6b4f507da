-- What all parts of a job's execution stand for, by the journal.
use Rattle.std.specs.Prelude.{◌≡◌, ◌+◌, ◌<◌, ℕ, Bool, false, List, [], ◌∷◌, ◌++◌, length, Option, None}
use Rattle.world.specs.declared.chan.Chan.{Chan}
use Rattle.world.specs.declared.chan.Chan.TheVariants as chan
use Rattle.world.specs.declared.entry.Entry.{Entry}
use Rattle.world.specs.Places.{time}
use Rattle.jsign.specs.History.{StandsFor as SeenFor}
use Rattle.kernel_talk.specs.Asking.{Asked, no_asking}
use Rattle.kernel_talk.specs.Requests.{Identity}
use Rattle.kernel_lines.specs.Happened.{History, Given, came_in}
use Rattle.kernel_lines.specs.Line.{StandsFor, role_of}
use Rattle.kernel_lines.specs.Lines.{OthersStay, line_on, role_on}
use Rattle.kernel_lines.specs.declared.line.Line.{Line}
use Rattle.kernel_lines.specs.declared.lines.Lines.{Lines}
use Rattle.cell_core.specs.declared.event.Event.{Event}
use Rattle.cell_core.specs.declared.machine.Core.{Core}
use Rattle.cell_core.specs.declared.why.Why.{Why}
use Rattle.cell_core.specs.Task.{cell_of}
use Rattle.job_notebook.specs.declared.notebook.JobNotebook.{JobNotebook}
use Rattle.run_journal.specs.Codec.{Execute, Info}
use Rattle.run_journal.specs.Job.{Job}
use Rattle.run_journal.specs.Jupyter.{Speaker, bodies_in}
use Rattle.run_journal.specs.Parts.{bytes_got, saves_of}
use Rattle.run_journal.specs.Arrivals.{is_ready}
use Rattle.run_journal.specs.Requests.{Request, requests}
use Rattle.run_journal.specs.Saves.{run_saves}
use Rattle.run_journal.specs.Queue.{Queued}
use Rattle.job_journal.specs.Line.{OnLine}
use Rattle.job_journal.specs.Made.{HasMade, passing_saves}
use Rattle.job_journal.specs.Plot.{Plot, facts, speaker, first, IsFor}
use Rattle.job_journal.specs.Seen.{HasSeen}
use Rattle.job_journal.specs.Talk.{OnTalk}
use Rattle.job_journal.specs.Told.{AgreesBut}
use Rattle.job_journal.specs.Used.{OnBook, OnRequest, Sent}

-- the parts of an execution
pub record Parts : Type 0 where
  pub lines : Lines  -- the connections
  pub session : Identity
  pub asking : Asked
  pub shell_seen : List (List ℕ)  -- the signatures that were seen on shell
  pub iopub_seen : List (List ℕ)  -- those on IOPub
  pub book : JobNotebook
  pub core : Core
  pub request : Option Sent  -- the request that stands
  pub sent : ℕ  -- how many requests were sent
  pub is_ready : Bool  -- the kernel is ready
  pub clock : ℕ

-- A connection stands for the bytes that were got on it, whatever was queued.
pub record Reads (j : Job) (c : Chan) (l : Line) (now : List Entry) : Type 0 where
  pub past : History
  pub out : List ℕ
  pub role : role_of l ≡ role_on c
  pub stands : StandsFor l past out
  pub got : came_in past ≡ bytes_got j c now

-- The connections stand for what was got on them. Those for shell, control and IOPub also stand for what was queued on them but these unsent messages.
pub record OnLines (s : Speaker) (j : Job) (ls : Lines) (unsent : List Queued) (now : List Entry) : Type 0 where
  pub shell : OnLine s j chan.Shell (line_on ls chan.Shell) unsent now
  pub control : OnLine s j chan.Control (line_on ls chan.Control) unsent now
  pub iopub : OnLine s j chan.Iopub (line_on ls chan.Iopub) unsent now
  pub heart : Reads j chan.Heart (line_on ls chan.Heart) now

-- The parts stand for the journal, where no interrupt is asked for. Of the messages that the job has queued these are unsent, and these events
-- are still to be told. The saves that were made are those of passed requests.
pub record StandsBy (p : Plot) (number : ℕ) (x : Parts) (unsent : List Queued) (pending : List Event) (now : List Entry) : Type 0 where
  pub undated : (facts p).task.times.interrupt ≡ false
  pub is_for : IsFor p number x.session x.core x.book
  pub lines : OnLines (speaker p) (facts p) x.lines unsent now
  pub talk : OnTalk (facts p) x.asking x.session unsent now
  pub shell_seen : HasSeen p.setting.key x.shell_seen (bodies_in chan.Shell (bytes_got (facts p) chan.Shell now))
  pub iopub_seen : HasSeen p.setting.key x.iopub_seen (bodies_in chan.Iopub (bytes_got (facts p) chan.Iopub now))
  pub book : OnBook (facts p) (first p) x.book (requests (facts p) now)
  pub request : OnRequest (facts p) x.request (requests (facts p) now)
  pub sent : x.sent ≡ length (requests (facts p) now)
  pub core : AgreesBut (facts p) x.core pending now
  pub made : HasMade (facts p) (passing_saves (facts p) (requests (facts p) now)) (saves_of (facts p) now) now
  pub ready : x.is_ready ≡ is_ready (facts p) now
  pub clock : x.clock ≡ time now

-- Nothing has happened to the connections, nothing was asked, no message was made, no signature was seen and no request was sent.
pub record AreNew (x : Parts) : Type 0 where
  pub roles : (c : Chan) → role_of (line_on x.lines c) ≡ role_on c
  pub lines : (c : Chan) → StandsFor (line_on x.lines c) [] []
  pub asking : x.asking ≡ no_asking
  pub made : x.session.made ≡ 0
  pub shell_seen : SeenFor x.shell_seen []
  pub iopub_seen : SeenFor x.iopub_seen []
  pub request : x.request ≡ None
  pub sent : x.sent ≡ 0
  pub ready : x.is_ready ≡ false

-- the request of this place in the plan as a queued message, by its number and its date
abbrev pub executes : ℕ → ℕ → ℕ → Queued
executes k number date = record { what = Execute k; number = number; date = date }

-- the question whether the kernel is ready as a queued message, by its number and its date
abbrev pub question : ℕ → ℕ → Queued
question number date = record { what = Info; number = number; date = date }

-- A request stands by the journal behind these earlier ones, and the job has still to send it: that of this cell. Nothing has come for it.
pub record IsNext (j : Job) (cell : ℕ) (earlier : List Request) (r : Request) (now : List Entry) : Type 0 where
  pub stands : requests j now ≡ earlier ++ r ∷ []
  pub io : r.io ≡ []
  pub replies : r.replies ≡ []
  pub planned : length earlier < length j.task.plan
  pub cell_is : cell ≡ cell_of j.task (length earlier)

-- The parts stand for the journal but for the request of this cell: it stands, and the job has still to send it.
pub record IsToSend (p : Plot) (number : ℕ) (x : Parts) (cell : ℕ) (now : List Entry) : Type 0 where
  pub earlier : List Request
  pub newest : Request
  pub next : IsNext (facts p) cell earlier newest now
  pub numbered : newest.number ≡ x.session.made + 1
  pub undated : (facts p).task.times.interrupt ≡ false
  pub is_for : IsFor p number x.session x.core x.book
  pub lines : OnLines (speaker p) (facts p) x.lines (executes (length earlier) newest.number (time now) ∷ []) now
  pub talk : OnTalk (facts p) x.asking x.session (executes (length earlier) newest.number (time now) ∷ []) now
  pub shell_seen : HasSeen p.setting.key x.shell_seen (bodies_in chan.Shell (bytes_got (facts p) chan.Shell now))
  pub iopub_seen : HasSeen p.setting.key x.iopub_seen (bodies_in chan.Iopub (bytes_got (facts p) chan.Iopub now))
  pub book : OnBook (facts p) (first p) x.book earlier
  pub sent : x.sent ≡ length earlier
  pub core : AgreesBut (facts p) x.core [] now
  pub made : HasMade (facts p) (passing_saves (facts p) (requests (facts p) now)) (saves_of (facts p) now) now
  pub ready : x.is_ready ≡ is_ready (facts p) now
  pub clock : x.clock ≡ time now

-- A message of these parts was given to the connection for shell, and to no other.
pub record Sends (old new : Lines) (parts : List (List ℕ)) : Type 0 where
  pub others : OthersStay chan.Shell old new
  pub role : role_of (line_on new chan.Shell) ≡ role_of (line_on old chan.Shell)
  pub stands : (h : History) (out : List ℕ) → StandsFor (line_on old chan.Shell) h out → StandsFor (line_on new chan.Shell) (Given parts ∷ h) out

-- Octets of the connection to this channel were handed out, or noted as taken; it stands for the same, and the others are as they were.
pub record Hands (c : Chan) (old new : Lines) : Type 0 where
  pub others : OthersStay c old new
  pub role : role_of (line_on new c) ≡ role_of (line_on old c)
  pub stands : (h : History) (out : List ℕ) → StandsFor (line_on old c) h out → (given : List ℕ) × StandsFor (line_on new c) h given

-- The texts that were renamed onto the output are those of the first saves that are due by the requests that stand, whatever stops the job.
pub record HasEndedAs (p : Plot) (now : List Entry) : Type 0 where
  pub cause : Option Why
  pub count : ℕ
  pub made : HasMade (facts p) (run_saves (facts p) (requests (facts p) now) cause) count now
