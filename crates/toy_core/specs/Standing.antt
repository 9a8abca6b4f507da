-- What the toy kernel stands at after calls: what it heard on each connection, what is due there, and what is still
-- to happen. What is due by a moment has happened before what comes at that moment.
use Rattle.std.specs.Prelude.{◌≡◌, ◌≤◌, ℕ, ℤ, pos, Bool, true, false, cond, ◌&&◌, nat_eq, nat_le, nat_lt, List, [], ◌∷◌, ◌++◌, length, drop, sum_by}
use Rattle.std.specs.Prelude.{Option, Some, None, is_some, is_ok, fold}
use Rattle.std.specs.List.{list_any, starts_with}
use Rattle.jtext.specs.declared.json.Json.{Json}
use Rattle.world.specs.declared.chan.Chan.{Chan}
use Rattle.world.specs.declared.chan.Chan.TheVariants as chan
use Rattle.world.specs.Calls.{Call, Ticked, Accepted, Took, Gave}
use Rattle.world.specs.Kernel.{Given, Hands, Waits, Over}
use Rattle.world.specs.Rises.{one_more}
use Rattle.zmtp_wire.specs.Frame.{MOST}
use Rattle.zmtp_wire.specs.Meaning.{messages_in, answer_to}
use Rattle.zmtp_wire.specs.Writing.{greeting_octets, ready_octets}
use Rattle.zmtp_wire.specs.Command.{is_pub}
use Rattle.zmtp_peer.specs.Envelope.{bodies_of}
use Rattle.zmtp_peer.specs.Subscription.{prefixes_in}
use Rattle.toy_lang.specs.Runs.{effects, variables_after}
use Rattle.toy_core.specs.declared.act.Act.{Act}
use Rattle.toy_core.specs.declared.act.Act.TheVariants.{Send, Pause, End, Close}
use Rattle.toy_core.specs.declared.agenda.Agenda.{Agenda}
use Rattle.toy_core.specs.declared.kernel.Kernel.{Kernel}
use Rattle.toy_core.specs.declared.note.Note.{Note}
use Rattle.toy_core.specs.declared.outbox.Outbox.{Outbox}
use Rattle.toy_core.specs.declared.reach.Reach.{Reach}
use Rattle.toy_core.specs.declared.request.Asked.{Asked}
use Rattle.toy_core.specs.declared.request.Asked.TheVariants.{Execute, Info, Interrupt, Shutdown}
use Rattle.toy_core.specs.declared.request.Request.{Request}
use Rattle.toy_core.specs.Acts.{acts_by, acts_left, begun_at, ending, first_close, after_close}
use Rattle.toy_core.specs.Contents.{interrupt_reply, shutdown_reply}
use Rattle.toy_core.specs.Notes.{cell_notes, info_notes, interrupted_notes, control_notes}
use Rattle.toy_core.specs.Outboxes.{new_box, post_octets, hand_out, open_box}
use Rattle.toy_core.specs.Requests.{request_in}
use Rattle.toy_core.specs.Sending.{role_on, topic, body_octets, acts_of, number_after_all}

-- ---- connections

-- one connection: the octets that came since it was taken up, and what is due on it
pub record Line : Type 0 where
  pub heard : List ℕ
  pub outbox : Outbox

-- the four connections
pub record Lines : Type 0 where
  pub shell : Line
  pub control : Line
  pub iopub : Line
  pub heart : Line

-- the connection to a channel
abbrev pub line : Chan → Lines → Line
line chan.Shell ls = ls.shell
line chan.Control ls = ls.control
line chan.Iopub ls = ls.iopub
line chan.Heart ls = ls.heart

-- the connections with this one to a channel
abbrev pub with_line : Chan → Line → Lines → Lines
with_line chan.Shell l ls = record { shell = l; control = ls.control; iopub = ls.iopub; heart = ls.heart }
with_line chan.Control l ls = record { shell = ls.shell; control = l; iopub = ls.iopub; heart = ls.heart }
with_line chan.Iopub l ls = record { shell = ls.shell; control = ls.control; iopub = l; heart = ls.heart }
with_line chan.Heart l ls = record { shell = ls.shell; control = ls.control; iopub = ls.iopub; heart = l }

-- a prefix among these begins the topic
abbrev pub is_wanted : List (List ℕ) → Bool
is_wanted prefixes = list_any (λ p. starts_with nat_eq topic p) prefixes

-- what came breaks the grammar of ZMTP
abbrev pub is_broken : Chan → List ℕ → Bool
is_broken c heard = cond (is_ok (answer_to (role_on c) heard)) false true

-- what is sent on a channel where this came is sent: it isn't broken, and on IOPub there is a subscription
abbrev pub hears : Chan → List ℕ → Bool
hears c heard =
    cond (is_broken c heard) false (cond (is_pub (role_on c)) (is_wanted (prefixes_in (role_on c) heard)) true)

-- octets are sent on a connection, where they are sent
abbrev pub sent_on : Chan → List ℕ → Line → Line
sent_on c octets l = cond (hears c l.heard) (record { heard = l.heard; outbox = post_octets octets l.outbox }) l

-- octets are sent on a channel
abbrev pub send_on : Chan → List ℕ → Lines → Lines
send_on c octets ls = with_line c (sent_on c octets (line c ls)) ls

-- an act happens
abbrev pub performed_one : Act → Lines → Lines
performed_one (Send c octets) ls = send_on c octets ls
performed_one (Pause ms) ls = ls
performed_one (End status) ls = ls
performed_one (Close parent count) ls = ls

-- acts happen, in order
abbrev pub perform_all : List Act → Lines → Lines
perform_all acts ls = fold (λ s a. performed_one a s) ls acts

-- octets come on a connection
abbrev pub heard_on : List ℕ → Line → Line
heard_on piece l = record { heard = l.heard ++ piece; outbox = l.outbox }

-- the bodies of the messages that end in a piece which comes after these octets
abbrev pub news : Chan → List ℕ → List ℕ → List (List (List ℕ))
news c heard piece =
    bodies_of (role_on c) (drop (length (messages_in (role_on c) heard)) (messages_in (role_on c) (heard ++ piece)))

-- ---- what is to happen

-- the one status, or else the other
abbrev pub either : Option ℤ → Option ℤ → Option ℤ
either None later = later
either (Some status) later = Some status

-- the status with which the kernel has ended by a moment
abbrev pub end_by : ℕ → Agenda → Option ℤ
end_by now a = either a.end (ending (acts_by now a.since a.acts))

-- nothing is to happen
abbrev pub no_agenda : Agenda
no_agenda = record { acts = []; since = 0; end = None }

-- how far an agenda has come by a moment
pub record IsReach (now : ℕ) (a : Agenda) (r : Reach) : Type 0 where
  pub len : r.len ≡ length (acts_by now a.since a.acts)
  pub within : r.len ≤ length a.acts
  pub moment : r.moment ≡ begun_at now a.since a.acts
  pub end : r.end ≡ ending (acts_by now a.since a.acts)

-- nothing is to happen after the end
abbrev pub unless_ended : Option ℤ → List Act → List Act
unless_ended None acts = acts
unless_ended (Some status) acts = []

-- what is to happen once all that is due by a moment has happened
abbrev pub settled_agenda : ℕ → Agenda → Agenda
settled_agenda now a = record {
  acts = unless_ended (end_by now a) (acts_left now a.since a.acts);
  since = begun_at now a.since a.acts;
  end = end_by now a;
}

-- these acts are to happen after all others, not before now
abbrev pub queue_acts : ℕ → List Act → Agenda → Agenda
queue_acts now acts a = record { acts = a.acts ++ acts; since = cond (nat_eq (length a.acts) 0) now a.since; end = a.end }

-- the cell that is running is over now
abbrev pub cut : ℕ → Agenda → Agenda
cut now a = record { acts = after_close a.acts; since = now; end = a.end }

-- the kernel ends now
abbrev pub stop_agenda : ℤ → Agenda → Agenda
stop_agenda status a = record { acts = []; since = a.since; end = Some status }

-- ---- the kernel

-- all that the kernel stands at
pub record Standing : Type 0 where
  pub kernel : Kernel
  pub lines : Lines

-- with this agenda
abbrev pub with_agenda : Agenda → Kernel → Kernel
with_agenda a k = record { number = k.number; variables = k.variables; count = k.count; agenda = a }

-- with this number for the next message
abbrev pub with_number : ℕ → Kernel → Kernel
with_number n k = record { number = n; variables = k.variables; count = k.count; agenda = k.agenda }

-- the kernel has ended
abbrev pub has_ended : Kernel → Bool
has_ended k = is_some k.agenda.end

-- all that is due by a moment has happened
abbrev pub settle_all : ℕ → Standing → Standing
settle_all now s = record {
  kernel = with_agenda (settled_agenda now s.kernel.agenda) s.kernel;
  lines = perform_all (acts_by now s.kernel.agenda.since s.kernel.agenda.acts) s.lines;
}

-- what is done for notes to the request with this header
abbrev pub acts_for : List ℕ → Json → List Note → Kernel → List Act
acts_for key parent notes k = acts_of key parent k.number notes

-- the messages of notes have got their numbers
abbrev pub number_notes : List Note → Kernel → Kernel
number_notes notes k = with_number (number_after_all k.number notes) k

-- notes are done at once
abbrev pub done_at_once : List ℕ → Json → List Note → Standing → Standing
done_at_once key parent notes s = record {
  kernel = number_notes notes s.kernel;
  lines = perform_all (acts_for key parent notes s.kernel) s.lines;
}

-- notes are to be done after all that is to happen, with these acts at their end
abbrev pub queued_notes : ℕ → List ℕ → Json → List Note → List Act → Kernel → Kernel
queued_notes now key parent notes last k =
    with_agenda (queue_acts now (acts_for key parent notes k ++ last) k.agenda) (number_notes notes k)

-- a cell was run: its variables stand, and the next cell has the next count
abbrev pub with_run : List ℕ → Kernel → Kernel
with_run code k = record {
  number = k.number;
  variables = variables_after k.variables code;
  count = one_more k.count;
  agenda = k.agenda;
}

-- a cell is to be run
abbrev pub with_cell : ℕ → List ℕ → Json → List ℕ → Kernel → Kernel
with_cell now key parent code k =
    with_run code
    (queued_notes now key parent (cell_notes code k.count (effects k.variables code)) (Close parent k.count ∷ []) k)

-- a request for information on the kernel is to be answered
abbrev pub with_info : ℕ → List ℕ → Json → Kernel → Kernel
with_info now key parent k = queued_notes now key parent info_notes [] k

-- the cell that is running is over now
abbrev pub cut_short : ℕ → Standing → Standing
cut_short now s = record { kernel = with_agenda (cut now s.kernel.agenda) s.kernel; lines = s.lines }

-- the cell that is running ends with an error
abbrev pub interrupted_by : ℕ → List ℕ → Option (Json × ℕ) → Standing → Standing
interrupted_by now key None s = s
interrupted_by now key (Some cell) s = done_at_once key cell.0 (interrupted_notes cell.1) (cut_short now s)

-- the cell that is running, if one is, ends with an error
abbrev pub interrupt_cell : ℕ → List ℕ → Standing → Standing
interrupt_cell now key s = interrupted_by now key (first_close s.kernel.agenda.acts) s

-- the kernel ends now
abbrev pub shut : Standing → Standing
shut s = record { kernel = with_agenda (stop_agenda (pos 0) s.kernel.agenda) s.kernel; lines = s.lines }

-- the cell that is running ends, and the request is answered
abbrev pub interrupted_answered : ℕ → List ℕ → Json → Standing → Standing
interrupted_answered now key parent s = done_at_once key parent (control_notes interrupt_reply) (interrupt_cell now key s)

-- the request is answered, and the kernel ends
abbrev pub shut_answered : List ℕ → Json → Bool → Standing → Standing
shut_answered key parent restart s = shut (done_at_once key parent (control_notes (shutdown_reply restart)) s)

-- a request is served
abbrev pub served_as : ℕ → List ℕ → Json → Asked → Standing → Standing
served_as now key parent (Execute code) s = record { kernel = with_cell now key parent code s.kernel; lines = s.lines }
served_as now key parent Info s = record { kernel = with_info now key parent s.kernel; lines = s.lines }
served_as now key parent Interrupt s = interrupted_answered now key parent s
served_as now key parent (Shutdown restart) s = shut_answered key parent restart s

-- a request is served, if there is one
abbrev pub served_if : ℕ → List ℕ → Option Request → Standing → Standing
served_if now key None s = s
served_if now key (Some r) s = served_as now key r.parent r.asked s

-- a body may be sent: 1 to 63 parts with at most 64 MiB together
abbrev pub is_body : List (List ℕ) → Bool
is_body parts = nat_lt 0 (length parts) && nat_le (length parts) 63 && nat_le (sum_by length parts) MOST

-- a body that came on the heartbeat goes back
abbrev pub echo_body : List (List ℕ) → Lines → Lines
echo_body body ls = cond (is_body body) (send_on chan.Heart (body_octets chan.Heart body) ls) ls

-- a body that came on the heartbeat goes back, as the whole kernel has it
abbrev pub with_echo : List (List ℕ) → Standing → Standing
with_echo body s = record { kernel = s.kernel; lines = echo_body body s.lines }

-- what a body that came on a channel brings
abbrev pub served_on : ℕ → List ℕ → Chan → List (List ℕ) → Standing → Standing
served_on now key chan.Shell body s = served_if now key (request_in key chan.Shell body) s
served_on now key chan.Control body s = served_if now key (request_in key chan.Control body) s
served_on now key chan.Iopub body s = s
served_on now key chan.Heart body s = with_echo body s

-- a body that came is served, with all that is due then; nothing is once the kernel has ended
abbrev pub serve_body : ℕ → List ℕ → Chan → List (List ℕ) → Standing → Standing
serve_body now key c body s = cond (has_ended s.kernel) s (settle_all now (served_on now key c body s))

-- bodies are served in order
abbrev pub served_all : ℕ → List ℕ → Chan → List (List (List ℕ)) → Standing → Standing
served_all now key c bodies s = fold (λ t b. serve_body now key c b t) s bodies

-- octets come on a channel
abbrev pub heard : Chan → List ℕ → Standing → Standing
heard c piece s = record { kernel = s.kernel; lines = with_line c (heard_on piece (line c s.lines)) s.lines }

-- a piece that comes on a channel of a settled kernel is taken
abbrev pub took_settled : ℕ → List ℕ → Chan → List ℕ → Standing → Standing
took_settled now key c piece s =
    cond (has_ended s.kernel) s (served_all now key c (news c (line c s.lines).heard piece) (heard c piece s))

-- a piece that comes on a channel is taken
abbrev pub took : ℕ → List ℕ → Chan → List ℕ → Standing → Standing
took now key c piece s = took_settled now key c piece (settle_all now s)

-- ---- calls

-- the connections before any call
abbrev pub no_line : Chan → Line
no_line c = record {
  heard = [];
  outbox = new_box (greeting_octets ++ ready_octets (role_on c));
}

-- the kernel before any call
abbrev pub new_kernel : Kernel
new_kernel = record { number = 1; variables = []; count = 1; agenda = no_agenda }

-- the connections before any call
abbrev pub no_lines : Lines
no_lines = record {
  shell = no_line chan.Shell;
  control = no_line chan.Control;
  iopub = no_line chan.Iopub;
  heart = no_line chan.Heart;
}

-- what the kernel stands at before any call
abbrev pub start : Standing
start = record { kernel = new_kernel; lines = no_lines }

-- a connection is taken up: what came and what was due on the one before it counts no more
abbrev pub opened_line : Line → Line
opened_line l = record { heard = []; outbox = open_box l.outbox }

-- octets are handed out on a connection
abbrev pub handed_line : ℕ → Line → Line
handed_line n l = record { heard = l.heard; outbox = hand_out n l.outbox }

-- a connection to a channel is taken up, unless the kernel has ended by then
abbrev pub accept_line : Chan → ℕ → Standing → Standing
accept_line c now s =
    cond (is_some (end_by now s.kernel.agenda)) s
    (record { kernel = s.kernel; lines = with_line c (opened_line (line c s.lines)) s.lines })

-- the kernel after so many octets were handed out on a channel
abbrev pub handed_on : Chan → ℕ → Standing → Standing
handed_on c n s = record { kernel = s.kernel; lines = with_line c (handed_line n (line c s.lines)) s.lines }

-- what was given is handed out on a channel
abbrev pub handed_to : Chan → Given → Standing → Standing
handed_to c (Hands bytes) s = handed_on c (length bytes) s
handed_to c Waits s = s
handed_to c Over s = s

-- a call is made
abbrev pub after : List ℕ → Call → Standing → Standing
after key (Ticked now) s = s
after key (Accepted c now answer) s = accept_line c now s
after key (Took c now piece) s = took now key c piece s
after key (Gave c now room given) s = handed_to c given s

-- what the kernel stands at after these calls, the newest first, where messages are signed under the key
abbrev pub standing : List ℕ → List Call → Standing
standing key [] = start
standing key (call ∷ calls) = after key call (standing key calls)
