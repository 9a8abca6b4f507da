-- What an execution stands for, by the journal of its world, and what each of its steps makes of that (Jupyter messaging 5.3; nbclient,
-- `async_execute_cell`; papermill, which saves after each cell). It holds of jobs that want no interrupts.
use Rattle.std.specs.Prelude.{◌≡◌, ◌≢◌, ◌⊎◌, ◌∷◌, ◌++◌, ◌+◌, ◌≤◌, ℕ, Bool, true, false, if◌then◌else◌, List, [], Option, Some, None, Result, Ok, Err, IfErr, OnOk, length, slice_get}
use Rattle.world.specs.declared.chan.Chan.{Chan}
use Rattle.world.specs.declared.chan.Chan.TheVariants.{Iopub}
use Rattle.world.specs.declared.conn.Conn.{Conn}
use Rattle.world.specs.declared.entry.Entry.{Entry}
use Rattle.world.specs.declared.entry.Entry.TheVariants.{Got, Moment}
use Rattle.world.specs.Moments.{Since}
use Rattle.world.specs.Places.{is_at, time}
use Rattle.zmtp_wire.specs.declared.fault.WireFault.{WireFault}
use Rattle.zmtp_wire.specs.Decoder.{Answer}
use Rattle.zmtp_peer.specs.Peer.{Brings}
use Rattle.kernel_lines.specs.Happened.{History, Came, came_in}
use Rattle.kernel_lines.specs.Line.{StandsFor, role_of, taken_of}
use Rattle.kernel_lines.specs.Lines.{OthersStay, line_on}
use Rattle.jcontent.specs.declared.content.Content.{Content}
use Rattle.jcontent.specs.declared.content.Content.TheVariants as content
use Rattle.jcontent.specs.declared.reply.ReplyIs.TheVariants as reply_is
use Rattle.cell_core.specs.declared.act.Act.{Act}
use Rattle.cell_core.specs.declared.act.Act.TheVariants.{Nothing, Start, Send, Look, Save, Stop, Interrupt}
use Rattle.cell_core.specs.declared.event.Event.{Event}
use Rattle.cell_core.specs.declared.event.Event.TheVariants as event
use Rattle.cell_core.specs.declared.event.Event.TheVariants.{Saved}
use Rattle.cell_core.specs.declared.machine.Core.{Core}
use Rattle.cell_core.specs.Acts.{has_stopped, heard, wants_look_of}
use Rattle.cell_core.specs.Answering.{can_answer}
use Rattle.cell_core.specs.Events.{came, is_broken}
use Rattle.cell_core.specs.Events.{time as core_time}
use Rattle.cell_core.specs.Holds.{now_of}
use Rattle.cell_core.specs.StandsFor.{StandsFor as CoreStandsFor, task_of}
use Rattle.cell_core.specs.Saves.{why}
use Rattle.cell_core.specs.declared.why.Why.{Why}
use Rattle.cell_core.specs.declared.why.Why.TheVariants.{BadPeer}
use Rattle.job_end.specs.declared.answer.Answer.{Answer as JobAnswer}
use Rattle.job_end.specs.declared.end.End.{End}
use Rattle.job_end.specs.Answers.{Answers}
use Rattle.run_journal.specs.Agreement.{is_at_once}
use Rattle.run_journal.specs.Asked.{may_raise}
use Rattle.run_journal.specs.Codec.{Arrival}
use Rattle.run_journal.specs.Job.{Job as Facts}
use Rattle.run_journal.specs.Requests.{Request as Asked, last_request, reply, requests}
use Rattle.run_journal.specs.Parts.{place, bytes_put}
use Rattle.job_journal.specs.Ended.{HasAnswered, HasStoppedFor, IsBrokenAs, IsLateStop, bad_with}
use Rattle.job_journal.specs.Piece.{HasCome, Within, with_done}
use Rattle.job_journal.specs.Plot.{Plot, facts}
use Rattle.job_journal.specs.Quiet.{IsQuietNow}
use Rattle.job_journal.specs.Saved.{IsAsked}
use Rattle.job_journal.specs.Standing.{Parts, StandsBy, IsToSend}
use Rattle.job_journal.specs.Used.{OnRequest, Sent}
use Rattle.job_run.specs.Heard.{is_parent_of}
use Rattle.job_run.specs.Task.{AreTermsOf}
use Rattle.job_run.specs.declared.execution.Execution.{Execution}
use Rattle.job_run.specs.declared.request.Request.{Request}

-- ---- an execution between its steps

-- a request by its id and its cell
abbrev pub sent_of : Option Request → Option Sent
sent_of None = None
sent_of (Some r) = Some (record { id = r.id; cell = r.cell })

-- the parts of an execution
abbrev pub parts_of : Execution → Parts
parts_of x = record {
  lines = x.lines;
  session = x.session;
  asking = x.asking;
  shell_seen = x.seen.shell;
  iopub_seen = x.seen.iopub;
  book = x.book;
  core = x.core;
  request = sent_of x.request;
  sent = x.sent;
  is_ready = x.is_ready;
  clock = x.clock;
}

-- An execution does what its job asks: its terms are those that were asked for, and the request that stands is noted as tagged exactly
-- where its cell is, by the notebook as it was read.
pub record IsAskedFor (p : Plot) (x : Execution) : Type 0 where
  pub terms : AreTermsOf p.ask x.terms
  pub tagged : (r : Request) → x.request ≡ Some r → r.is_tagged ≡ may_raise (slice_get p.given.cells r.cell)

-- the exception that a reply names, where it is an error (Jupyter messaging 5.3, "Execution results")
abbrev pub error_in : Content → Option (List ℕ)
error_in (content.ExecReply (reply_is.Error ename)) = Some ename
error_in _ = None

-- the exception that the reply to this request of the plan names, once it has come and stops the run
abbrev pub error_by : Facts → ℕ → Option (Arrival × ℕ) → Option (List ℕ)
error_by j k None = None
error_by j k (Some m) = if j.fatal k m.0.content then error_in m.0.content else None

-- the exception that is noted with the request that stands is the one that its reply names: this is the request with what came for it
abbrev pub NotesErrorOf : Facts → Option Request → ℕ → Asked → Type 0
NotesErrorOf j request k q = (r : Request) → request ≡ Some r → r.error ≡ error_by j k (reply q)

-- the same, where that request is the last of these
abbrev pub NotesError : Facts → Option Request → List Asked → Type 0
NotesError j request rs = (k : ℕ) (q : Asked) → last_request 0 rs ≡ Some (k, q) → NotesErrorOf j request k q

-- the same of the last request that stood before a piece on this channel, with the messages so far of the piece
abbrev pub NotesSoFar : Facts → Option Request → Chan → List Arrival → List Entry → Type 0
NotesSoFar j request c done past = (k : ℕ) (q : Asked) → last_request 0 (requests j past) ≡ Some (k, q) → NotesErrorOf j request k (with_done j c q done past)

-- An execution stands for the journal: all messages were sent that the job has queued, and all events were told.
pub record Stands (p : Plot) (number : ℕ) (x : Execution) (now : List Entry) : Type 0 where
  pub parts : StandsBy p number (parts_of x) [] [] now
  pub asked : IsAskedFor p x
  pub noted : NotesError (facts p) x.request (requests (facts p) now)

-- An execution stands for the journal but for its clock: it may still have to be told the last clock entries. So an execution stands once
-- a job has begun behind it and has read the clock.
pub record StandsUntold (p : Plot) (number : ℕ) (x : Execution) (now : List Entry) : Type 0 where
  pub stands : Stands p number (record x { clock = time now }) now
  pub earlier : x.clock ≤ time now

-- ---- a stream that broke

-- The stream of this channel is broken by the journal with this fault, where our side answers one.
abbrev pub BreaksAs : Facts → Chan → Option WireFault → List Entry → Type 0
BreaksAs j c None now = Unit {0}
BreaksAs j c (Some f) now = IsBrokenAs j (bad_with c f) now

-- A stream is noted as broken, and it is broken by the journal with the fault that is noted.
pub record NotesBroken (j : Facts) (noted_is : Option (Chan × WireFault)) (now : List Entry) : Type 0 where
  pub chan : Chan
  pub fault : WireFault
  pub noted : noted_is ≡ Some (chan, fault)
  pub is : IsBrokenAs j (bad_with chan fault) now

-- where these events stop the job for a loss or for a time that is over, no stream is broken by the journal, and that time is over
abbrev pub StopsLate : Plot → List Event → List Entry → Type 0
StopsLate p told now = (cause : Why) → why (facts p).task told ≡ Some cause → is_at_once cause ≡ false → IsLateStop (facts p) cause now

-- ---- an execution whose core has answered

-- a request of this cell stands by the journal, and is still to be sent
pub record IsToSendCell (p : Plot) (number : ℕ) (x : Execution) (cell : ℕ) (now : List Entry) : Type 0 where
  pub parts : IsToSend p number (parts_of x) cell now
  pub asked : IsAskedFor p x

-- A save that settles so many cells is due, and is still to be made. Where the core was told of a broken stream, it is noted which. Where a loss or a
-- time that is over stops the job, none is broken, and that time is over.
pub record IsToSave (p : Plot) (number : ℕ) (x : Execution) (settled : ℕ) (now : List Entry) : Type 0 where
  pub stands : Stands p number x now
  pub due : IsAsked (facts p).task stands.parts.core.told settled
  pub late : StopsLate p stands.parts.core.told now
  pub broken : came is_broken stands.parts.core.told ≡ true → NotesBroken (facts p) x.broken now

-- The core stops the job for this cause: by the journal it has stopped for it. The request that the job has is the last one, and the exception that
-- is noted with it is the one that its reply names. Where a stream broke, it is noted which. Where a loss or a time that is over stops the job, none
-- is broken, and that time is over.
pub record IsToStop (p : Plot) (x : Execution) (cause : Why) (now : List Entry) : Type 0 where
  pub stopped : HasStoppedFor p cause now
  pub late : is_at_once cause ≡ false → IsLateStop (facts p) cause now
  pub request : OnRequest (facts p) (sent_of x.request) (requests (facts p) now)
  pub noted : NotesError (facts p) x.request (requests (facts p) now)
  pub broken : cause ≡ BadPeer → NotesBroken (facts p) x.broken now

-- The job of a plot ends so: whatever answer that end gives, the job has ended with it by the journal.
abbrev pub EndsSo : Plot → End → List Entry → Type 0
EndsSo p e now = (a : JobAnswer) → Answers p.ask.output e a → HasAnswered p a now

-- What stands of an execution whose core has answered this act last, which is still to be done.
abbrev pub StandsTo : Plot → ℕ → Execution → Act → List Entry → Type 0
StandsTo p number x (Send cell) now = IsToSendCell p number x cell now
StandsTo p number x (Save settled) now = IsToSave p number x settled now
StandsTo p number x (Stop cause) now = IsToStop p x cause now
StandsTo p number x Start now = Stands p number x now × (x.request ≡ None)
StandsTo p number x Interrupt now = ⊥
StandsTo p number x _ now = Stands p number x now

-- ---- what a step leaves

-- the execution stands for the journal, or the job ends so
abbrev pub StandsOrEnds : {U : Type 0} → Plot → ℕ → Execution → Result U End → List Entry → Type 0
StandsOrEnds p number x (Ok u) now = Stands p number x now
StandsOrEnds p number x (Err e) now = EndsSo p e now

-- the same where the next act is still to be done
abbrev pub StandsToOrEnds : Plot → ℕ → Execution → Result Act End → List Entry → Type 0
StandsToOrEnds p number x (Ok act) now = StandsTo p number x act now
StandsToOrEnds p number x (Err e) now = EndsSo p e now

-- no request was sent yet, or one more was sent than before
abbrev pub MovesOn : Execution → Execution → Type 0
MovesOn x y = (y.request ≡ None) ⊎ (y.sent ≡ x.sent + 1)

-- An execution did this act, which was due by the journal: it stands for the journal again. After an act that answers the acknowledgement
-- of a save a further request was sent, or none was yet.
abbrev pub DoesAct : {U : Type 0} → Plot → ℕ → Execution → Act → Execution → Result U End → List Entry → List Entry → Type 0
DoesAct p number x act y result before after = StandsTo p number x act before
    → StandsOrEnds p number y result after × (can_answer Saved act ≡ true → OnOk result (MovesOn x y))

-- nothing was to be done, and nothing was
pub record StaysStill {U : Type 0} (x y : Execution) (result : Result U End) : Type 0 where
  pub same : y ≡ x
  pub no_end : IfErr result (λ e. ⊥)

-- an act for which an execution has nothing to do
abbrev pub is_idle : Act → Bool
is_idle Nothing = true
is_idle Start = true
is_idle Look = true
is_idle _ = false

-- ---- the clock

-- The clock was read in a turn with this moment, and since then only entries were made that are quiet for the job. Before it the execution
-- stood for the journal but for its clock, and knew how many octets were put on IOPub. Its core wants no last look.
pub record IsTurned (p : Plot) (number : ℕ) (x : Execution) (ms : ℕ) (now : List Entry) : Type 0 where
  pub unlooked : (told : List Event) → CoreStandsFor x.core told → wants_look_of (task_of x.core) told ≡ false
  pub past : List Entry
  pub stands : StandsUntold p number x past
  pub taken : taken_of (line_on x.lines Iopub) ≡ length (bytes_put (facts p) Iopub past)
  pub rises : time past ≤ ms
  pub since : Since (IsQuietNow (facts p)) (Moment ms ∷ past) now

-- The same where the execution has noted the moment as its clock, and its core was told. It has not asked its kernel anything by it yet.
pub record HasTurned (p : Plot) (number : ℕ) (x : Execution) (now : List Entry) : Type 0 where
  pub past : List Entry
  pub stands : Stands p number (record x { clock = time past }) past
  pub knows : x.clock ≤ core_time stands.parts.core.told
  pub taken : taken_of (line_on x.lines Iopub) ≡ length (bytes_put (facts p) Iopub past)
  pub since : Since (IsQuietNow (facts p)) (Moment x.clock ∷ past) now

-- an event of the clock, or a loss: the core answers it by a look at most
abbrev pub is_passing : Event → Bool
is_passing (event.Moment ms) = true
is_passing event.Lost = true
is_passing _ = false

-- Nothing but the core of an execution has changed, and under this clock it stands for the journal.
pub record GoesBy (p : Plot) (number clock : ℕ) (x y : Execution) (now : List Entry) : Type 0 where
  pub rest : y ≡ record x { core = y.core }
  pub stands : Stands p number (record y { clock = clock }) now

-- An execution that stood for a journal under some clock still does. Nothing but its core has changed, it goes on, and no call was made.
abbrev pub PassesBy : {U : Type 0} → Plot → ℕ → Execution → Execution → Result U End → List Entry → List Entry → Type 0
PassesBy p number x y result before after = (clock : ℕ) (now : List Entry) → Stands p number (record x { clock = clock }) now
    → GoesBy p number clock x y now × IfErr result (λ e. ⊥) × (after ≡ before)

-- a core was told these events, and they haven't stopped its job
pub record GoesOnBy (core : Core) (told : List Event) : Type 0 where
  pub stands : CoreStandsFor core told
  pub goes_on : has_stopped (task_of core) (heard (task_of core) told) ≡ false

-- the core of an execution that goes on was told this event, and knows the clock by it
abbrev pub KnowsBy : {U : Type 0} → Event → Execution → Execution → Result U End → Type 0
KnowsBy e x y result = (told : List Event) → GoesOnBy x.core told → OnOk result (now_of y.core.clock ≡ core_time (e ∷ told))

-- where the core of an execution that goes on wanted no last look, it was told the clock
abbrev pub HearsClock : {U : Type 0} → Execution → Execution → Result U End → Type 0
HearsClock x y result = (told : List Event) → GoesOnBy x.core told → wants_look_of (task_of x.core) told ≡ false → OnOk result (x.clock ≤ now_of y.core.clock)

-- the core of an execution that goes on knows a clock that isn't earlier than before
abbrev pub KeepsClock : {U : Type 0} → Execution → Execution → Result U End → Type 0
KeepsClock x y result = (told : List Event) → GoesOnBy x.core told → OnOk result (now_of x.core.clock ≤ now_of y.core.clock)

-- ---- a piece, as it is heard

-- The newest entry is a piece that was got on this connection of the job, and the execution stood for the journal before it.
pub record IsGot (p : Plot) (number : ℕ) (x : Execution) (c : Chan) (bytes : List ℕ) (now : List Entry) : Type 0 where
  pub conn : Conn
  pub room : ℕ
  pub past : List Entry
  pub is : now ≡ Got conn room bytes ∷ past
  pub at : is_at (place (facts p) c) conn ≡ true
  pub stands : Stands p number x past

-- A piece came to the connection of this channel with the newest entry, and these bodies end in it. Nothing else has changed since the
-- execution stood for the journal before it.
pub record HasFed (p : Plot) (number : ℕ) (x : Execution) (c : Chan) (bodies : List (List (List ℕ))) (now : List Entry) : Type 0 where
  pub before : Parts
  pub past : List Entry
  pub stands : StandsBy p number before [] [] past
  pub asked : IsAskedFor p x
  pub noted : NotesError (facts p) x.request (requests (facts p) past)
  pub rest : parts_of x ≡ record before { lines = x.lines }
  pub conn : Conn
  pub room : ℕ
  pub bytes : List ℕ
  pub is : now ≡ Got conn room bytes ∷ past
  pub at : is_at (place (facts p) c) conn ≡ true
  pub others : OthersStay c before.lines x.lines
  pub role : role_of (line_on x.lines c) ≡ role_of (line_on before.lines c)
  pub line : (h : History) (out : List ℕ) → StandsFor (line_on before.lines c) h out → StandsFor (line_on x.lines c) (Came bytes ∷ h) out
  pub answer : Answer
  pub brings : (h : History) (out : List ℕ) → StandsFor (line_on before.lines c) h out
      → Brings (role_of (line_on before.lines c)) (came_in h) bytes [] bodies answer

-- All bodies of the piece that came with the newest entry on this channel were heard, and these messages in them. The kernel's readiness
-- isn't noted yet.
pub record HasListened (p : Plot) (number : ℕ) (x : Execution) (c : Chan) (ms : List Arrival) (now : List Entry) : Type 0 where
  pub entry : Entry
  pub past : List Entry
  pub is : now ≡ entry ∷ past
  pub parts : HasCome p number (parts_of x) c ms entry past
  pub asked : IsAskedFor p x
  pub noted : NotesError (facts p) x.request (requests (facts p) past)

-- ---- a piece, message after message

-- Of the messages of a piece that came on this channel these first were dealt with, and these rest weren't. So many requests had been sent
-- when it came. Either the request that stood then is open, or what the journal has is used, and no further message of the piece is.
pub data Uses (p : Plot) (number : ℕ) (x : Execution) (standing : ℕ) (c : Chan) (done rest : List Arrival) : List Entry → Type 0 where
  open_request : {entry : Entry} {past : List Entry} → x.sent ≡ standing → Within p number (parts_of x) c done rest entry past → IsAskedFor p x
      → NotesSoFar (facts p) x.request c done past → Uses p number x standing c done rest (entry ∷ past)
  all_used : {now : List Entry} → Stands p number x now → (x.request ≡ None) ⊎ (x.sent ≢ standing) → Uses p number x standing c done rest now

-- a message was dealt with, or the job ends so
abbrev pub UsesOrEnds : {U : Type 0} → Plot → ℕ → Execution → Result U End → ℕ → Chan → List Arrival → List Arrival → List Entry → Type 0
UsesOrEnds p number x (Ok u) standing c done rest now = Uses p number x standing c done rest now
UsesOrEnds p number x (Err e) standing c done rest now = EndsSo p e now

-- a message with this content and this date is of the request that stands, which is the one that stood when its piece came
pub record IsOwn (m : Arrival) (standing : ℕ) (content : Content) (date : Option (List ℕ)) (x : Execution) : Type 0 where
  pub sent : x.sent ≡ standing
  pub parent : is_parent_of x.request m.parent ≡ true
  pub content_is : content ≡ m.content
  pub date_is : date ≡ m.date

-- An execution dealt with one message more of the piece: it is used where it is of the request that stood, and what stood so stands.
abbrev pub DealsWith : {U : Type 0} → Plot → ℕ → Execution → ℕ → Chan → List Arrival → Arrival → List Arrival → Execution → Result U End → List Entry → List Entry → Type 0
DealsWith p number x standing c done m rest y result before after = Uses p number x standing c done (m ∷ rest) before
    → UsesOrEnds p number y result standing c (done ++ m ∷ []) rest after
