-- What a peer's side of a connection stands for, and what a piece brings to it.
use Rattle.std.specs.Prelude.{◌≡◌, ℕ, true, false, cond, List, [], ◌++◌, Err}
use Rattle.zmtp_wire.specs.declared.role.Role.{Role}
use Rattle.zmtp_wire.specs.declared.fault.WireFault.TheVariants as fault
use Rattle.zmtp_wire.specs.Stream.{Gives, IsShaken}
use Rattle.zmtp_wire.specs.Decoder as wire
use Rattle.zmtp_peer.specs.declared.peer.Peer.{Peer}
use Rattle.zmtp_peer.specs.Envelope.{bodies_of}
use Rattle.zmtp_peer.specs.Subscription.{in_force}
use Rattle.zmtp_peer.specs.Reply.{is_sub, Subscribes, pongs}

-- the role that the peer's side plays
abbrev pub role_of : Peer → Role
role_of p = p.role

-- Ok where it reads on, and else the refusal that it has for good
abbrev pub answer_of : Peer → wire.Answer
answer_of p = cond p.starved (Err fault.NoMemory) (wire.answer_of p.decoder)

-- memory was wanted, and it reads no more
abbrev pub IsStarved : Peer → Type 0
IsStarved p = answer_of p ≡ Err fault.NoMemory

-- It has read these octets of the other side, and has given these octets as replies.
pub record StandsFor (p : Peer) (b sent : List ℕ) : Type 0 where
  pub contexts : List (List ℕ)
  pub subscription : List ℕ
  pub messages : List (List (List ℕ))
  pub owed : List (List ℕ)
  pub answer : wire.Answer
  pub unstarved : p.starved ≡ false
  pub role : wire.role_of p.decoder ≡ p.role
  pub reads : wire.StandsFor p.decoder b contexts
  pub gives : Gives p.role b messages owed answer
  pub prefixes : p.prefixes ≡ in_force p.role messages
  pub spoke : sent ≡ subscription ++ pongs contexts
  pub due : p.subscribed ≡ false → (subscription ≡ []) × (is_sub p.role ≡ true → contexts ≡ [])
  pub done : p.subscribed ≡ true → (is_sub p.role ≡ true) × IsShaken p.role b × Subscribes p.role b subscription

-- this subscription is due to the sender of b and wasn't given
pub record IsDue (p : Peer) (b subscription : List ℕ) : Type 0 where
  pub ungiven : p.subscribed ≡ false
  pub sub : is_sub p.role ≡ true
  pub shaken : IsShaken p.role b
  pub subscribes : Subscribes p.role b subscription

-- the subscription was given, or none is due
abbrev pub IsSettled : Peer → List ℕ → Type 0
IsSettled p b = p.subscribed ≡ false → Subscribes p.role b []

-- What a piece brings that follows b: the list has grown by the bodies of the messages that the piece brings, and the
-- answer is that of b with the piece.
pub record Brings (r : Role) (b piece : List ℕ) (old new : List (List (List ℕ))) (answer : wire.Answer) : Type 0 where
  pub came : List (List (List ℕ))
  pub brings : wire.Brings r b piece [] came answer
  pub grown : new ≡ old ++ bodies_of r came

-- What stands where memory ran out: the list has grown by some of the bodies that the piece brings, the first ones.
pub record BringsSome (r : Role) (b piece : List ℕ) (old new : List (List (List ℕ))) : Type 0 where
  pub came : List (List (List ℕ))
  pub more : List (List (List ℕ))
  pub left : List (List (List ℕ))
  pub answer : wire.Answer
  pub brings : wire.Brings r b piece [] came answer
  pub first : bodies_of r came ≡ more ++ left
  pub grown : new ≡ old ++ more
