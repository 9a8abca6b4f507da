-- What we write: a greeting, READY and messages, in the shortest form (RFC 23, RFC 37).
use Rattle.std.specs.Prelude.{ℕ, Bool, true, false, cond, nat_lt, List, [], ◌∷◌, ◌++◌, length, codes, replicate, ◌≤◌, ◌<◌, sum_by}
use Rattle.std.specs.Int.{w64, to_be_bytes}
use Rattle.zmtp_wire.specs.declared.role.Role.{Role}
use Rattle.zmtp_wire.specs.declared.role.Role.TheVariants as role
use Rattle.zmtp_wire.specs.Frame.{MOST}
use Rattle.std.specs.Prelude.{◌≡◌, nat_eq}
use Rattle.std.specs.List.{starts_with}
use Rattle.zmtp_wire.specs.Command.{ready_name, error_name, command_messages, command_contexts}
use Rattle.zmtp_wire.specs.Stream.{Message, Context}

-- version 3.1, mechanism NULL
abbrev pub greeting_octets : List ℕ
greeting_octets = 255 ∷ (replicate 8 0 ++ (127 ∷ 3 ∷ 1 ∷ codes "NULL" ++ replicate 48 0))

-- the name of a role on the wire
abbrev pub role_name : Role → List ℕ
role_name role.Dealer = codes "DEALER"
role_name role.Sub = codes "SUB"
role_name role.Req = codes "REQ"
role_name role.Router = codes "ROUTER"
role_name role.Pub = codes "PUB"
role_name role.Rep = codes "REP"

-- the body of READY: the one property Socket-Type
abbrev pub ready_body : Role → List ℕ
ready_body r = ready_name ++ (11 ∷ codes "Socket-Type") ++ (0 ∷ 0 ∷ 0 ∷ length (role_name r) ∷ role_name r)

-- READY as a command
abbrev pub ready_octets : Role → List ℕ
ready_octets r = 4 ∷ length (ready_body r) ∷ ready_body r

-- a unit in its shortest form: the one flag goes with a size of one octet, the other one with LONG
unfoldable pub unit_octets : ℕ → ℕ → List ℕ → List ℕ
unit_octets short long body = cond (nat_lt (length body) 256) (short ∷ length body ∷ body) (long ∷ (to_be_bytes w64 (length body) ++ body))

-- a frame: MORE is 1, LONG is 2
abbrev pub frame_octets : Bool → List ℕ → List ℕ
frame_octets more body = unit_octets (cond more 1 0) (cond more 3 2) body

-- a command: COMMAND is 4, LONG is 2
abbrev pub command_octets : List ℕ → List ℕ
command_octets body = unit_octets 4 6 body

-- whether frames follow
abbrev pub has_more : List (List ℕ) → Bool
has_more [] = false
has_more (p ∷ ps) = true

-- a message: its parts as frames, MORE on all but the last
abbrev pub message_octets : List (List ℕ) → List ℕ
message_octets [] = []
message_octets (p ∷ ps) = frame_octets (has_more ps) p ++ message_octets ps

-- a message that we may write
pub record IsMessage (parts : List (List ℕ)) : Type 0 where
  pub some : 0 < length parts
  pub few : length parts ≤ 64
  pub small : sum_by length parts ≤ MOST

-- messages that we may write
abbrev pub AreMessages : List (List (List ℕ)) → Type 0
AreMessages [] = Unit {0}
AreMessages (m ∷ ms) = IsMessage m × AreMessages ms

-- messages one after another
abbrev pub all_octets : List (List (List ℕ)) → List ℕ
all_octets [] = []
all_octets (m ∷ ms) = message_octets m ++ all_octets ms

-- ---- what may follow READY

-- a message, or a command with this body
pub data Writing : Type 0 where
  message : Message → Writing
  command : List ℕ → Writing

-- the octets of these, one after another
abbrev pub writing_octets : List Writing → List ℕ
writing_octets [] = []
writing_octets (message m ∷ ws) = message_octets m ++ writing_octets ws
writing_octets (command body ∷ ws) = command_octets body ++ writing_octets ws

-- a command that may be written: no ERROR, and no longer than a frame
pub record IsCommand (body : List ℕ) : Type 0 where
  pub harmless : starts_with nat_eq body error_name ≡ false
  pub small : length body ≤ MOST

-- messages and commands that may be written
abbrev pub AreWritings : List Writing → Type 0
AreWritings [] = Unit {0}
AreWritings (message m ∷ ws) = IsMessage m × AreWritings ws
AreWritings (command body ∷ ws) = IsCommand body × AreWritings ws

-- the messages that the role reads in them, of us who speak 3.1
abbrev pub messages_heard : Role → List Writing → List Message
messages_heard r [] = []
messages_heard r (message m ∷ ws) = m ∷ messages_heard r ws
messages_heard r (command body ∷ ws) = command_messages r true body ++ messages_heard r ws

-- the contexts of the PINGs among them
abbrev pub contexts_heard : List Writing → List Context
contexts_heard [] = []
contexts_heard (message m ∷ ws) = contexts_heard ws
contexts_heard (command body ∷ ws) = command_contexts true body ++ contexts_heard ws
