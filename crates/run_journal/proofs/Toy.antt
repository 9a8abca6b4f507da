-- A toy way to write messages as bytes, and journals of it, so that the definitions can be computed by hand.
use Rattle.std.proofs.Common.{ℕ, ◌+◌, List, [], ◌∷◌, ◌++◌, Bool, true, false, Option, Some, None, codes, map, replicate}
use Rattle.std.specs.Prelude.{◌==◌, ◌&&◌, ◌-◌, nat_le, if◌then◌else◌, slice_index, length}
use Rattle.jtext.specs.declared.json.Json.TheVariants as json
use Rattle.jcontent.specs.declared.content.Content.{Content}
use Rattle.jcontent.specs.declared.content.Content.TheVariants as content
use Rattle.jcontent.specs.declared.reply.ReplyIs.TheVariants as reply_is
use Rattle.jcontent.specs.declared.shown.Shown.{Shown}
use Rattle.jcontent.specs.declared.state.State.TheVariants as state
use Rattle.out_fold.specs.declared.used.Used.{Used}
use Rattle.out_fold.specs.Cells.{contents, all_contents}
use Rattle.out_fold.specs.Shown.{outputs}
use Rattle.words.specs.Paths.{temporary_of}
use Rattle.world.specs.declared.chan.Chan.{Chan}
use Rattle.world.specs.declared.chan.Chan.TheVariants.{Shell, Control, Iopub}
use Rattle.world.specs.declared.connected.Connected.TheVariants as connected
use Rattle.world.specs.declared.did.Did.TheVariants as did
use Rattle.world.specs.declared.entry.Entry.{Entry}
use Rattle.world.specs.declared.entry.Entry.TheVariants as made
use Rattle.run_journal.specs.Codec.{Arrival, Sending, Info, Execute, Interrupt, Ping, Shutdown, Codec}
use Rattle.run_journal.specs.Job.{Job, Runs}

-- ---- messages of two bytes: what it says, and the number of its parent

-- a display `x` of so many pairs
abbrev pub shown : ℕ → Shown
shown n = record { bundle = replicate n (codes "n", json.Null); metadata = json.Obj []; id = Some (codes "x") }

-- what a byte says: from 20 on it prints a text, from 40 on it shows `x`, from 60 on it updates `x`
abbrev pub says : ℕ → Content
says n =
    if n == 0 then content.Status state.Busy
    else if n == 1 then content.Status state.Idle
    else if n == 3 then content.ExecReply reply_is.Fine
    else if n == 4 then content.ExecReply (reply_is.Error (codes "E"))
    else if n == 5 then content.InfoReply
    else if nat_le 60 n then content.Update (shown (n - 60))
    else if nat_le 40 n then content.Display (shown (n - 40))
    else if nat_le 20 n then content.Stream (codes "stdout") ((n - 20) ∷ [])
    else content.Other

-- the messages of pairs of bytes; 7 is a message whose signature is wrong, 8 is a PING
abbrev pub pairs : List ℕ → List Arrival
pairs (what ∷ parent ∷ rest) =
    if nat_le 7 what && nat_le what 8 then pairs rest
    else record { parent = Some (parent ∷ []); date = None; content = says what } ∷ pairs rest
pairs _ = []

-- the PONGs that are owed for pairs of bytes
abbrev pub pongs : List ℕ → List ℕ
pongs (what ∷ context ∷ rest) = if what == 8 then 108 ∷ context ∷ pongs rest else pongs rest
pongs _ = []

-- all behind one byte for the handshake, which is 9
abbrev pub behind : {X : Type 0} → (List ℕ → List X) → List ℕ → List X
behind read [] = []
behind read (hello ∷ rest) = read rest

-- that byte has come
abbrev pub has_hello : List ℕ → Bool
has_hello [] = false
has_hello (hello ∷ rest) = hello == 9

-- another byte in its place breaks the grammar
abbrev pub fault_of : List ℕ → Option (ℕ × ℕ)
fault_of [] = None
fault_of (hello ∷ rest) = if hello == 9 then None else Some (1, 0)

-- the subscription, one byte
abbrev pub subscription_of : List ℕ → List ℕ
subscription_of bytes = if has_hello bytes then 101 ∷ [] else []

-- what is owed on a channel
abbrev pub owed_on : Chan → List ℕ → List ℕ
owed_on Iopub bytes = subscription_of bytes ++ behind pongs bytes
owed_on _ bytes = behind pongs bytes

-- the first byte of what is sent
abbrev pub code_of : Sending → ℕ
code_of Info = 201
code_of (Execute k) = 202
code_of Interrupt = 203
code_of Ping = 204
code_of Shutdown = 205

-- the toy way to write
abbrev pub toy_codec : Codec
toy_codec = record {
  messages = λ c bytes. behind pairs bytes;
  shaken = λ c bytes. has_hello bytes;
  fault = λ c bytes. fault_of bytes;
  opening = λ c. 100 ∷ [];
  subscription = subscription_of;
  owed = owed_on;
  put = λ what number date. code_of what ∷ number ∷ date ∷ [];
}

-- ---- jobs

-- what an output shows: a text's first byte, or how many pairs a display has
abbrev pub mark : Content → ℕ
mark (content.Stream name text) = slice_index text 0
mark (content.Display s) = length s.bundle
mark _ = 0

-- the outputs of each cell, each ended by 255
abbrev pub marks : List Used → List ℕ
marks [] = []
marks (u ∷ us) = map mark (outputs (contents u) (all_contents us)) ++ 255 ∷ marks us

-- the stopping cell and one more, 0 where there is none
abbrev pub stop_mark : Option ℕ → ℕ
stop_mark None = 0
stop_mark (Some i) = i + 1

-- a reply of an error
abbrev pub is_raised : Content → Bool
is_raised (content.ExecReply (reply_is.Error ename)) = true
is_raised _ = false

-- a job with two cells, both to run, without limits and heartbeat
abbrev pub job : Job
job = record {
  number = 0;
  input = codes "in";
  inputs = codes "in" ∷ codes "in2" ∷ [];
  output = codes "out";
  given = Runs;
  name_fault = None;
  spec_fault = None;
  task = record { plan = 0 ∷ 1 ∷ []; cells = 2; times = record { start_ms = 60000; limit_ms = None; interrupt = false } };
  heartbeat = false;
  fatal = λ k c. is_raised c;
  print = λ us settled stop. settled ∷ stop_mark stop ∷ marks us;
  msg_id = λ n. n ∷ [];
  codec = toy_codec;
  turns = 1000;
}

-- one with one cell
abbrev pub one : Job
one = record job { task = record { plan = 0 ∷ []; cells = 1; times = job.task.times } }

-- another job
abbrev pub other : Job
other = record job { number = 1; input = codes "in2"; output = codes "out2" }

-- the same with three cells
abbrev pub three : Job
three = record job { task = record { plan = 0 ∷ 1 ∷ 2 ∷ []; cells = 3; times = job.task.times } }

-- ---- journals, the oldest entry first

-- an acknowledged save, of which the writes are left out
abbrev pub saved : Job → List Entry
saved j = made.Renamed (temporary_of j.output) j.output did.Done ∷ made.DirSynced (codes ".") did.Done ∷ []

-- the same with its writes, of this text
abbrev pub saved_as : Job → List ℕ → List Entry
saved_as j text =
    made.Created (temporary_of j.output) did.Done ∷ made.Wrote (temporary_of j.output) text did.Done
    ∷ made.Synced (temporary_of j.output) did.Done ∷ saved j

-- bytes got
abbrev pub got : Job → Chan → List ℕ → Entry
got j c bytes = made.Got (record { job = j.number; chan = c }) 65536 bytes

-- bytes put
abbrev pub put : Job → Chan → List ℕ → Entry
put j c bytes = made.Put (record { job = j.number; chan = c }) bytes

-- nothing to read
abbrev pub dry : Job → Chan → Entry
dry j c = made.Dry (record { job = j.number; chan = c })

-- a connection that was begun
abbrev pub begun : Job → Chan → Entry
begun j c = made.Connected (record { job = j.number; chan = c }) 5000 connected.Begun

-- a connection that was closed
abbrev pub closed : Job → Chan → Entry
closed j c = made.Closed (record { job = j.number; chan = c })

-- a wait that reports these places
abbrev pub wait : ℕ → List Bool → Entry
wait ms ready = made.Waited ms (record { ready = ready }) did.Done

-- a turn of one job: a wait that reports shell and IOPub, the clock, and a look at the child
abbrev pub turn : ℕ → List Entry
turn ms = wait 500 (true ∷ false ∷ true ∷ []) ∷ made.Moment ms ∷ made.Looked 0 None ∷ []

-- a child is started and its connections begun, with the clock at 10
abbrev pub start : Job → List Entry
start j =
    made.Moment 10 ∷ made.Ports j.number (Some (1 ∷ 2 ∷ 3 ∷ 4 ∷ 5 ∷ []))
    ∷ made.Started j.number (codes "k" ∷ []) [] (codes ".") did.Done ∷ begun j Shell ∷ begun j Control ∷ begun j Iopub ∷ []

-- Up to readiness: the first save, the start, the handshakes at 20, a `kernel_info_request` at 30, and its reply at 40 with a
-- message on IOPub. The job's message 2 is request 0.
abbrev pub made_ready : Job → List Entry
made_ready j =
    saved j ++ start j ++ turn 20 ++ (got j Shell (9 ∷ []) ∷ got j Iopub (9 ∷ []) ∷ put j Iopub (100 ∷ 101 ∷ []) ∷ [])
    ++ turn 30 ++ turn 40 ++ (got j Shell (5 ∷ 1 ∷ []) ∷ got j Iopub (0 ∷ 1 ∷ []) ∷ [])

-- a request that prints, with its reply after its idle: its message has this number
abbrev pub printed : Job → ℕ → ℕ → List Entry
printed j number what =
    got j Iopub (0 ∷ number ∷ what ∷ number ∷ 1 ∷ number ∷ []) ∷ got j Shell (3 ∷ number ∷ []) ∷ []
