-- How the toy kernel sends: numbered, dated, signed and framed (Jupyter messaging 5.3, "General message format").
use Rattle.std.specs.Prelude.{ℕ, List, [], ◌∷◌, ◌++◌, Some, codes}
use Rattle.std.specs.Fmt.{decimal}
use Rattle.jtext.specs.declared.json.Json.{Json}
use Rattle.jtext.specs.declared.json.Json.TheVariants as json
use Rattle.jtext.specs.Look.{string_at}
use Rattle.jmsg.specs.declared.header.Header.{Header}
use Rattle.jmsg.specs.declared.message.Message as message
use Rattle.jmsg.specs.Encoded.{encode}
use Rattle.world.specs.Rises.{one_more}
use Rattle.world.specs.declared.chan.Chan.{Chan}
use Rattle.world.specs.declared.chan.Chan.TheVariants as chan
use Rattle.zmtp_wire.specs.declared.role.Role.{Role}
use Rattle.zmtp_wire.specs.declared.role.Role.TheVariants as role
use Rattle.zmtp_wire.specs.Writing.{message_octets}
use Rattle.zmtp_peer.specs.Envelope.{with_envelope}
use Rattle.toy_lang.specs.ToyOut.{Message}
use Rattle.toy_core.specs.declared.note.Note.{Note}
use Rattle.toy_core.specs.declared.note.Note.TheVariants.{Say, Rest, Stop}
use Rattle.toy_core.specs.declared.act.Act.{Act}
use Rattle.toy_core.specs.declared.act.Act.TheVariants.{Send, Pause, End}

-- the kind of the kernel's socket on a channel
abbrev pub role_on : Chan → Role
role_on chan.Shell = role.Router
role_on chan.Control = role.Router
role_on chan.Iopub = role.Pub
role_on chan.Heart = role.Rep

-- the topic of what is published
abbrev pub topic : List ℕ
topic = codes "toy"

-- the header of message number n
abbrev pub header : ℕ → List ℕ → Header
header n kind = record {
  msg_id = codes "toy_" ++ decimal n;
  session = codes "toy";
  username = codes "toy";
  date = Some (codes "2000-01-01T00:00:00.000Z");
  msg_type = kind;
  version = codes "5.3";
}

-- message number n, to the request with this header
abbrev pub message_to : Json → ℕ → Message → message.Message
message_to parent n m = record {
  header = header n m.0;
  parent_id = string_at parent (codes "msg_id");
  parent = parent;
  metadata = json.Obj [];
  content = m.1;
  buffers = [];
}

-- the frame before a message's own: the topic on IOPub
abbrev pub topic_frames : Chan → List (List ℕ)
topic_frames chan.Shell = []
topic_frames chan.Control = []
topic_frames chan.Iopub = topic ∷ []
topic_frames chan.Heart = []

-- the frames of message number n on a channel, signed under the key
abbrev pub frames : List ℕ → Chan → Json → ℕ → Message → List (List ℕ)
frames key c parent n m = topic_frames c ++ encode key (message_to parent n m)

-- a body as it goes out on a channel
abbrev pub body_octets : Chan → List (List ℕ) → List ℕ
body_octets c body = message_octets (with_envelope (role_on c) body)

-- what is done for a note, where the next message has number n
abbrev pub act_of : List ℕ → Json → ℕ → Note → Act
act_of key parent n (Say c m) = Send c (body_octets c (frames key c parent n m))
act_of key parent n (Rest ms) = Pause ms
act_of key parent n (Stop status) = End status

-- the number of the next message after a note
abbrev pub number_after : ℕ → Note → ℕ
number_after n (Say c m) = one_more n
number_after n (Rest ms) = n
number_after n (Stop status) = n

-- what is done for notes, whose messages are numbered from n on
abbrev pub acts_of : List ℕ → Json → ℕ → List Note → List Act
acts_of key parent n [] = []
acts_of key parent n (note ∷ notes) = act_of key parent n note ∷ acts_of key parent (number_after n note) notes

-- the number of the next message after notes
abbrev pub number_after_all : ℕ → List Note → ℕ
number_after_all n [] = n
number_after_all n (note ∷ notes) = number_after_all (number_after n note) notes
