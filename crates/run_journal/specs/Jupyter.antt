-- The reading and writing of a kernel's connections as Jupyter has it, under the key of a session (Jupyter messaging 5.3, "The wire protocol";
-- ZMTP 3.0 and 3.1, RFC 23 and RFC 37).
use Rattle.std.specs.Prelude.{ℕ, List, [], ◌∷◌, ◌++◌, Bool, Option, None, codes, map, flat_map, option_map, option_to_list, unwrap_or}
use Rattle.jtext.specs.declared.json.Json.{Json}
use Rattle.world.specs.declared.chan.Chan.{Chan}
use Rattle.world.specs.declared.chan.Chan.TheVariants as chan
use Rattle.zmtp_wire.specs.declared.role.Role.TheVariants as role
use Rattle.zmtp_wire.specs.Fault.{number_of}
use Rattle.zmtp_wire.specs.Meaning.{Place, messages_in, is_shaken, fault_in}
use Rattle.zmtp_wire.specs.Writing.{greeting_octets, ready_octets, message_octets}
use Rattle.zmtp_peer.specs.Envelope.{with_envelope, bodies_of}
use Rattle.zmtp_peer.specs.Reply.{subscription_to, owed_octets}
use Rattle.jsign.specs.History.{fresh_items}
use Rattle.jmsg.specs.declared.message.Message.{Message}
use Rattle.jmsg.specs.Decoding.{after_delimiter, decode}
use Rattle.jmsg.specs.Encoded.{encode}
use Rattle.kernel_talk.specs.Requests.{request}
use Rattle.kernel_lines.specs.Lines.{role_on}
use Rattle.jcontent.specs.declared.content.Content.TheVariants as content
use Rattle.jcontent.specs.Contents.{content_of}
use Rattle.jcontent.specs.Requests as contents
use Rattle.run_journal.specs.Codec.{Arrival, Sending, Info, Execute, Interrupt, Ping, Shutdown, Codec}

-- who speaks: the session and its key; and of each request to execute the code, and whether the kernel is to stop on an error
pub record Speaker : Type 0 where
  pub session : List ℕ
  pub key : List ℕ
  pub code : ℕ → List ℕ
  pub stop_on_error : ℕ → Bool

-- ---- what is read

-- the bodies of the messages that the bytes hold whole
abbrev pub bodies_in : Chan → List ℕ → List (List (List ℕ))
bodies_in c bytes = bodies_of (role_on c) (messages_in (role_on c) bytes)

-- a message as it arrives
abbrev pub arrival_of : Message → Arrival
arrival_of m = record { parent = m.parent_id; date = m.header.date; content = content_of m.header.msg_type m.content }

-- the first of these frames, the signature
abbrev pub first_frame : List (List ℕ) → List ℕ
first_frame [] = []
first_frame (frame ∷ frames) = frame

-- the signature of a message, the first frame after the delimiter
abbrev pub signature_frame : List (List ℕ) → List ℕ
signature_frame parts = first_frame (unwrap_or (after_delimiter parts) [])

-- a message with its signature, where the parts are one that is signed under the key
abbrev pub signed_item : List ℕ → List (List ℕ) → Option (List ℕ × Arrival)
signed_item key parts = option_map (λ m. (signature_frame parts, arrival_of m)) (decode key parts)

-- the signed messages among the bodies, with their signatures
abbrev pub signed_items : List ℕ → List (List (List ℕ)) → List (List ℕ × Arrival)
signed_items key bodies = flat_map (λ parts. option_to_list (signed_item key parts)) bodies

-- the signed messages that the bytes hold whole, none whose signature is that of one of the last 65,536 that were kept
abbrev pub signed_messages : List ℕ → Chan → List ℕ → List Arrival
signed_messages key c bytes = map (λ item. item.1) (fresh_items (signed_items key (bodies_in c bytes)))

-- a message on the heartbeat, whatever it holds
abbrev pub echo : Arrival
echo = record { parent = None; date = None; content = content.Other }

-- the messages on a channel: on the heartbeat each counts, signed or not
abbrev pub messages_on : List ℕ → Chan → List ℕ → List Arrival
messages_on key chan.Heart bytes = map (λ body. echo) (bodies_in chan.Heart bytes)
messages_on key c bytes = signed_messages key c bytes

-- a fault's number and its place
abbrev pub numbered_place : Place → ℕ × ℕ
numbered_place p = (number_of p.0, p.1)

-- ---- what is written

-- a message of the session, as it goes on shell and control
abbrev pub session_octets : Speaker → ℕ → ℕ → List ℕ → Json → List ℕ
session_octets s number ms kind content = message_octets (with_envelope role.Dealer (encode s.key (request s.session number ms kind content)))

-- what is sent, by its number among the job's messages and the clock
abbrev pub octets_of : Speaker → Sending → ℕ → ℕ → List ℕ
octets_of s Info number ms = session_octets s number ms (codes "kernel_info_request") contents.empty
octets_of s (Execute k) number ms = session_octets s number ms (codes "execute_request") (contents.execute (s.code k) (s.stop_on_error k))
octets_of s Interrupt number ms = session_octets s number ms (codes "interrupt_request") contents.empty
octets_of s Ping number ms = message_octets (with_envelope role.Req (codes "ping" ∷ []))
octets_of s Shutdown number ms = session_octets s number ms (codes "shutdown_request") contents.shutdown

-- the reading and writing of a speaker's connections
abbrev pub jupyter_codec : Speaker → Codec
jupyter_codec s = record {
  messages = messages_on s.key;
  shaken = λ c bytes. is_shaken (role_on c) bytes;
  fault = λ c bytes. option_map numbered_place (fault_in (role_on c) bytes);
  opening = λ c. greeting_octets ++ ready_octets (role_on c);
  subscription = λ bytes. subscription_to role.Sub bytes;
  owed = λ c bytes. owed_octets (role_on c) bytes;
  put = octets_of s;
}
