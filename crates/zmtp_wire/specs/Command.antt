-- The commands of ZMTP 3.0 and 3.1 (RFC 23, "The NULL Security Mechanism"; RFC 37, "Commands" and "Heartbeats").
use Rattle.std.specs.Prelude.{◌≡◌, ◌≤◌, ℕ, All, Bool, true, false, cond, ◌&&◌, nat_le, nat_eq, List, [], ◌∷◌, ◌++◌, length, drop, codes, Option, None, Some, map}
use Rattle.std.specs.List.{starts_with, list_any}
use Rattle.std.specs.Int.{w32, from_be_bytes}
use Rattle.std.specs.Char.{to_ascii_lowercase}
use lib.Pointwise.{pointwise}
use Rattle.zmtp_wire.specs.declared.role.Role.{Role}
use Rattle.zmtp_wire.specs.declared.role.Role.TheVariants as role
use Rattle.zmtp_wire.specs.declared.cause.Cause.{Cause}
use Rattle.zmtp_wire.specs.declared.cause.Cause.TheVariants as cause

-- how the body of an ERROR begins
abbrev pub error_name : List ℕ
error_name = 5 ∷ codes "ERROR"

-- how the body of a READY begins
abbrev pub ready_name : List ℕ
ready_name = 5 ∷ codes "READY"

-- ---- READY

-- a property: a name and a value
abbrev pub Property : Type 0
Property = List ℕ × List ℕ

-- the octets spell these properties: each the name's length, the name, four octets of the value's length, the value
pub data SpellsProperties : List Property → List ℕ → Type 0 where
  none : SpellsProperties [] []
  one : (name size value rest : List ℕ) (ps : List Property) → length size ≡ 4 → from_be_bytes w32 size ≡ length value → SpellsProperties ps rest
      → SpellsProperties ((name, value) ∷ ps) (length name ∷ (name ++ (size ++ (value ++ rest))))

-- the octets spell no properties
abbrev pub SpellsNone : List ℕ → Type 0
SpellsNone octets = (ps : List Property) → SpellsProperties ps octets → ⊥

-- whether a property is Socket-Type, in any case of ASCII
abbrev pub is_type_name : List ℕ → Bool
is_type_name name = pointwise nat_eq (map to_ascii_lowercase name) (codes "socket-type")

-- the value of the first Socket-Type
abbrev pub socket_type : List Property → Option (List ℕ)
socket_type [] = None
socket_type (p ∷ ps) = cond (is_type_name p.0) (Some p.1) (socket_type ps)

-- the types of socket that a role may meet
abbrev pub peers : Role → List (List ℕ)
peers role.Dealer = codes "ROUTER" ∷ []
peers role.Sub = codes "PUB" ∷ codes "XPUB" ∷ []
peers role.Req = codes "REP" ∷ codes "ROUTER" ∷ []
peers role.Router = codes "DEALER" ∷ codes "REQ" ∷ []
peers role.Pub = codes "SUB" ∷ []
peers role.Rep = codes "REQ" ∷ []

-- whether a type of socket was named, and the role may meet it
abbrev pub is_peer : Role → Option (List ℕ) → Bool
is_peer r None = false
is_peer r (Some name) = list_any (pointwise nat_eq name) (peers r)

-- what is wrong with the body of a peer's first command
pub data WrongReady (role : Role) : List ℕ → Cause → Type 0 where
  refused : (text : List ℕ) → WrongReady role (error_name ++ text) cause.PeerError
  unnamed : (body : List ℕ) → starts_with nat_eq body error_name ≡ false → starts_with nat_eq body ready_name ≡ false → WrongReady role body cause.Command
  malformed : (octets : List ℕ) → SpellsNone octets → WrongReady role (ready_name ++ octets) cause.Command
  stranger : (octets : List ℕ) (ps : List Property) → SpellsProperties ps octets → is_peer role (socket_type ps) ≡ false → WrongReady role (ready_name ++ octets) cause.WrongPeer

-- ---- commands after the handshake

-- whether the role is the one that takes subscriptions
abbrev pub is_pub : Role → Bool
is_pub role.Dealer = false
is_pub role.Sub = false
is_pub role.Req = false
is_pub role.Router = false
is_pub role.Pub = true
is_pub role.Rep = false

-- SUBSCRIBE, which a prefix follows
unfoldable pub is_subscribe : List ℕ → Bool
is_subscribe body = starts_with nat_eq body (9 ∷ codes "SUBSCRIBE")

-- CANCEL, which a prefix follows
unfoldable pub is_cancel : List ℕ → Bool
is_cancel body = starts_with nat_eq body (6 ∷ codes "CANCEL")

-- PING, two octets of time and a context of 0 to 16 octets
abbrev pub is_ping : List ℕ → Bool
is_ping body = starts_with nat_eq body (4 ∷ codes "PING") && nat_le 7 (length body) && nat_le (length body) 23

-- the context that a peer's command has to have answered by a PONG, where the peer speaks 3.1
abbrev pub command_contexts : Bool → List ℕ → List (List ℕ)
command_contexts newer body = cond (newer && is_ping body) (drop 7 body ∷ []) []

-- the contexts of PINGs have at most 16 octets each (RFC 37, "Heartbeats")
abbrev pub AreShort : List (List ℕ) → Type 0
AreShort contexts = All (λ context. length context ≤ 16) contexts

-- the message that a peer's command means to the role, where the peer speaks 3.1: 01 and a prefix subscribes, 00 takes back
abbrev pub command_messages : Role → Bool → List ℕ → List (List (List ℕ))
command_messages r newer body =
    cond (newer && is_pub r)
    (cond (is_subscribe body) (((1 ∷ drop 10 body) ∷ []) ∷ [])
    (cond (is_cancel body) (((0 ∷ drop 7 body) ∷ []) ∷ []) []))
    []
