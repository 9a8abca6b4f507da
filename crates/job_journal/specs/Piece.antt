-- What the parts of an execution stand for while a piece that came is dealt with, message after message.
use Rattle.std.specs.Prelude.{◌≡◌, ℕ, Bool, true, false, List, [], ◌∷◌, ◌++◌, length, Option, Some, None}
use Rattle.std.specs.Str.{bytes_eq}
use Rattle.world.specs.declared.chan.Chan.{Chan}
use Rattle.world.specs.declared.chan.Chan.TheVariants as chan
use Rattle.world.specs.declared.conn.Conn.{Conn}
use Rattle.world.specs.declared.entry.Entry.{Entry}
use Rattle.world.specs.declared.entry.Entry.TheVariants as made
use Rattle.world.specs.Places.{is_at, time}
use Rattle.zmtp_wire.specs.Decoder.{Answer}
use Rattle.zmtp_peer.specs.Peer.{Brings}
use Rattle.nb_model.specs.declared.notebook.Notebook.{Notebook}
use Rattle.kernel_lines.specs.Happened.{History, Came, came_in}
use Rattle.kernel_lines.specs.Line.{StandsFor, role_of}
use Rattle.kernel_lines.specs.Lines.{OthersStay, line_on}
use Rattle.cell_core.specs.declared.event.Event.{Event}
use Rattle.cell_core.specs.Requests.{Standing, is_over as has_all}
use Rattle.job_notebook.specs.declared.notebook.JobNotebook.{JobNotebook}
use Rattle.run_journal.specs.Codec.{Arrival}
use Rattle.run_journal.specs.Job.{Job}
use Rattle.run_journal.specs.Jupyter.{bodies_in}
use Rattle.run_journal.specs.Parts.{place, bytes_got, saves_of}
use Rattle.run_journal.specs.Arrivals.{arrive, is_ready}
use Rattle.run_journal.specs.Requests.{Request, is_over, last_request, requests, with_news}
use Rattle.run_journal.specs.Queue.{news}
use Rattle.job_journal.specs.Made.{HasMade, passing_saves}
use Rattle.job_journal.specs.Plot.{Plot, facts, speaker, first, IsFor}
use Rattle.job_journal.specs.Seen.{HasHeard, HasSeen}
use Rattle.job_journal.specs.Standing.{Parts, OnLines}
use Rattle.job_journal.specs.Talk.{OnTalk, heard_on_shell, heard_on_iopub}
use Rattle.job_journal.specs.Told.{AgreesBut}
use Rattle.job_journal.specs.Used.{KnowsOf, OnBook, OnRequest, Sent, Replies, Takes, left_io, left_replies, so_far}

-- an entry is of bytes that were got on this channel of the job
pub data IsPiece (j : Job) (c : Chan) : Entry → Type 0 where
  piece : {conn : Conn} {room : ℕ} {bytes : List ℕ} → is_at (place j c) conn ≡ true → IsPiece j c (made.Got conn room bytes)

-- the messages of a channel, where it is IOPub
abbrev pub on_iopub : Chan → List Arrival → List Arrival
on_iopub chan.Iopub ms = ms
on_iopub c ms = []

-- the messages of a channel, where it is shell
abbrev pub on_shell : Chan → List Arrival → List Arrival
on_shell chan.Shell ms = ms
on_shell c ms = []

-- ---- the bytes and the bodies

-- These messages were heard in the bodies that a piece brings, on shell or on IOPub; nothing is heard on the other channels. What was seen on
-- another channel stays, and the asking goes on by the messages.
abbrev pub HearsOn : Plot → Chan → Parts → Parts → List (List (List ℕ)) → List Arrival → List Entry → Type 0
HearsOn p chan.Shell old new bodies ms past =
    HasHeard p.setting.key (bodies_in chan.Shell (bytes_got (facts p) chan.Shell past)) bodies new.shell_seen ms
    × (new.iopub_seen ≡ old.iopub_seen) × (new.asking ≡ heard_on_shell old.asking ms)
HearsOn p chan.Iopub old new bodies ms past =
    HasHeard p.setting.key (bodies_in chan.Iopub (bytes_got (facts p) chan.Iopub past)) bodies new.iopub_seen ms
    × (new.shell_seen ≡ old.shell_seen) × (new.asking ≡ heard_on_iopub old.asking ms)
HearsOn p c old new bodies ms past = (new.shell_seen ≡ old.shell_seen) × (new.iopub_seen ≡ old.iopub_seen) × (new.asking ≡ old.asking)

-- A piece came to the connection of a channel, and these messages were heard in the bodies that it brings. Nothing else has changed.
pub record Receives (p : Plot) (c : Chan) (old new : Parts) (bytes : List ℕ) (ms : List Arrival) (past : List Entry) : Type 0 where
  pub others : OthersStay c old.lines new.lines
  pub role : role_of (line_on new.lines c) ≡ role_of (line_on old.lines c)
  pub stands : (h : History) (out : List ℕ) → StandsFor (line_on old.lines c) h out → StandsFor (line_on new.lines c) (Came bytes ∷ h) out
  pub bodies : List (List (List ℕ))
  pub answer : Answer
  pub brings : (h : History) (out : List ℕ) → StandsFor (line_on old.lines c) h out → Brings (role_of (line_on old.lines c)) (came_in h) bytes [] bodies answer
  pub hears : HearsOn p c old new bodies ms past
  pub same : new ≡ record old { lines = new.lines; asking = new.asking; shell_seen = new.shell_seen; iopub_seen = new.iopub_seen }

-- All bodies of a piece were dealt with on its channel, and these messages were heard in them. The requests, the core and the readiness are still
-- as before the piece.
pub record HasCome (p : Plot) (number : ℕ) (x : Parts) (c : Chan) (ms : List Arrival) (entry : Entry) (past : List Entry) : Type 0 where
  pub piece : IsPiece (facts p) c entry
  pub iopub : arrive (facts p) chan.Iopub entry past ≡ on_iopub c ms
  pub shell : arrive (facts p) chan.Shell entry past ≡ on_shell c ms
  pub undated : (facts p).task.times.interrupt ≡ false
  pub is_for : IsFor p number x.session x.core x.book
  pub lines : OnLines (speaker p) (facts p) x.lines (news (facts p) (entry ∷ past) past) (entry ∷ past)
  pub talk : OnTalk (facts p) x.asking x.session (news (facts p) (entry ∷ past) past) (entry ∷ past)
  pub shell_seen : HasSeen p.setting.key x.shell_seen (bodies_in chan.Shell (bytes_got (facts p) chan.Shell (entry ∷ past)))
  pub iopub_seen : HasSeen p.setting.key x.iopub_seen (bodies_in chan.Iopub (bytes_got (facts p) chan.Iopub (entry ∷ past)))
  pub book : OnBook (facts p) (first p) x.book (requests (facts p) past)
  pub request : OnRequest (facts p) x.request (requests (facts p) past)
  pub sent : x.sent ≡ length (requests (facts p) past)
  pub core : AgreesBut (facts p) x.core [] past
  pub made : HasMade (facts p) (passing_saves (facts p) (requests (facts p) past)) (saves_of (facts p) past) past
  pub ready : x.is_ready ≡ is_ready (facts p) past
  pub clock : x.clock ≡ time past

-- ---- the messages

-- a message has the request that stands as parent
abbrev pub is_of : Option Sent → Option (List ℕ) → Bool
is_of (Some sent) (Some parent) = bytes_eq sent.id parent
is_of _ _ = false

-- the last request that stands is over
abbrev pub has_ended : Option Standing → Bool
has_ended None = false
has_ended (Some last) = has_all last.later

-- a request with the messages so far of a piece on this channel
abbrev pub with_done : Job → Chan → Request → List Arrival → List Entry → Request
with_done j c r ms past = with_news j r (on_iopub c ms) (on_shell c ms) (time past)

-- what is to be told of further messages on this channel for a request
abbrev pub left_on : Chan → Job → ℕ → Request → List Arrival → List Event
left_on chan.Iopub j k r ms = left_io j r ms
left_on chan.Shell j k r ms = left_replies j k r ms
left_on c j k r ms = []

-- Of the messages of a piece on this channel the first were dealt with and the rest weren't. The last request stood before the piece, and no request
-- comes to stand with it; it isn't over by the messages so far. What is still to be told is what the rest gives.
pub record Within (p : Plot) (number : ℕ) (x : Parts) (c : Chan) (done rest : List Arrival) (entry : Entry) (past : List Entry) : Type 0 where
  pub k : ℕ
  pub r : Request
  pub last : last_request 0 (requests (facts p) past) ≡ Some (k, r)
  pub steady : is_ready (facts p) (entry ∷ past) ≡ is_ready (facts p) past
  pub piece : IsPiece (facts p) c entry
  pub iopub : arrive (facts p) chan.Iopub entry past ≡ on_iopub c (done ++ rest)
  pub shell : arrive (facts p) chan.Shell entry past ≡ on_shell c (done ++ rest)
  pub is_open : is_over (with_done (facts p) c r done past) ≡ false
  pub undated : (facts p).task.times.interrupt ≡ false
  pub is_for : IsFor p number x.session x.core x.book
  pub lines : OnLines (speaker p) (facts p) x.lines [] (entry ∷ past)
  pub talk : OnTalk (facts p) x.asking x.session [] (entry ∷ past)
  pub shell_seen : HasSeen p.setting.key x.shell_seen (bodies_in chan.Shell (bytes_got (facts p) chan.Shell (entry ∷ past)))
  pub iopub_seen : HasSeen p.setting.key x.iopub_seen (bodies_in chan.Iopub (bytes_got (facts p) chan.Iopub (entry ∷ past)))
  pub book : OnBook (facts p) (first p) x.book (so_far (facts p) (on_iopub c done) (on_shell c done) past)
  pub request : OnRequest (facts p) x.request (requests (facts p) past)
  pub sent : x.sent ≡ length (requests (facts p) past)
  pub core : AgreesBut (facts p) x.core (left_on c (facts p) k (with_done (facts p) c r done past) rest) (entry ∷ past)
  pub knows : KnowsOf (facts p) core.told k (with_done (facts p) c r done past)
  pub made : HasMade (facts p) (passing_saves (facts p) (requests (facts p) (entry ∷ past))) (saves_of (facts p) (entry ∷ past)) (entry ∷ past)
  pub ready : x.is_ready ≡ is_ready (facts p) (entry ∷ past)
  pub clock : x.clock ≡ time (entry ∷ past)

-- ---- one message

-- where the core takes a message on IOPub the notebook has taken it, and else it is as it was
abbrev pub TakesBy : Bool → Notebook → JobNotebook → JobNotebook → Arrival → Type 0
TakesBy true given old new m = Takes given old new m
TakesBy false given old new m = new ≡ old

-- where the core takes a reply the notebook has its date, and else it is as it was
abbrev pub RepliesBy : Bool → Notebook → JobNotebook → JobNotebook → Arrival → Type 0
RepliesBy true given old new m = Replies given old new m
RepliesBy false given old new m = new ≡ old
