-- What a socket says of itself beside its messages: the subscription of SUB and PONGs (RFC 37, "Commands", "Heartbeats").
use Rattle.std.specs.Prelude.{◌≡◌, ℕ, Bool, true, false, cond, ◌&&◌, List, [], ◌∷◌, ◌++◌, map, codes, Option, Some, None}
use Rattle.zmtp_wire.specs.declared.role.Role.{Role}
use Rattle.zmtp_wire.specs.declared.role.Role.TheVariants as role
use Rattle.zmtp_wire.specs.Greeting.{newer_of}
use Rattle.zmtp_wire.specs.Stream.{Gives, IsShaken}
use Rattle.zmtp_wire.specs.Decoder.{Answer}
use Rattle.zmtp_wire.specs.Meaning.{contexts_in, is_shaken}
use Rattle.zmtp_wire.specs.Writing.{command_octets, message_octets, Writing, message, command}

-- whether the role subscribes
abbrev pub is_sub : Role → Bool
is_sub role.Dealer = false
is_sub role.Sub = true
is_sub role.Req = false
is_sub role.Router = false
is_sub role.Pub = false
is_sub role.Rep = false

-- the body of the command that subscribes to everything
abbrev pub subscribe_body : List ℕ
subscribe_body = 9 ∷ codes "SUBSCRIBE"

-- the message that subscribes to everything
abbrev pub subscribe_message : List (List ℕ)
subscribe_message = (1 ∷ []) ∷ []

-- the subscription to everything: the command to a peer that speaks 3.1, and else the message
abbrev pub subscription_octets : Bool → List ℕ
subscription_octets newer = cond newer (command_octets subscribe_body) (message_octets subscribe_message)

-- the subscription that the role owes a peer that has sent b: SUB's to everything, once the handshake is finished
pub data Subscribes (r : Role) (b : List ℕ) : List ℕ → Type 0 where
  no_sub : is_sub r ≡ false → Subscribes r b []
  not_yet : (IsShaken r b → ⊥) → Subscribes r b []
  everything : (newer : Bool) → is_sub r ≡ true → IsShaken r b → newer_of b ≡ Some newer → Subscribes r b (subscription_octets newer)

-- the body of a PONG with this context
abbrev pub pong_body : List ℕ → List ℕ
pong_body context = 4 ∷ codes "PONG" ++ context

-- a PONG with this context
abbrev pub pong : List ℕ → List ℕ
pong context = command_octets (pong_body context)

-- a PONG for each context, in order
abbrev pub pongs : List (List ℕ) → List ℕ
pongs [] = []
pongs (c ∷ cs) = pong c ++ pongs cs

-- all that the role owes a peer that has sent b, in order: the subscription, and a PONG for each PING
pub record Owes (r : Role) (b octets : List ℕ) : Type 0 where
  pub subscription : List ℕ
  pub messages : List (List (List ℕ))
  pub contexts : List (List ℕ)
  pub answer : Answer
  pub subscribes : Subscribes r b subscription
  pub gives : Gives r b messages contexts answer
  pub all : octets ≡ subscription ++ pongs contexts

-- ---- what is owed, as a function

-- the subscription for a peer of whose version this is known
abbrev pub subscription_for : Option Bool → List ℕ
subscription_for None = []
subscription_for (Some newer) = subscription_octets newer

-- the subscription that the role owes a peer that has sent b, nothing where there is none
abbrev pub subscription_to : Role → List ℕ → List ℕ
subscription_to r b = cond (is_sub r && is_shaken r b) (subscription_for (newer_of b)) []

-- all that the role owes a peer that has sent b, in order
abbrev pub owed_octets : Role → List ℕ → List ℕ
owed_octets r b = subscription_to r b ++ pongs (contexts_in r b)

-- ---- what is owed, as the other side reads it

-- the subscription as a command or as a message
abbrev pub subscription_writing : Bool → Writing
subscription_writing newer = cond newer (command subscribe_body) (message subscribe_message)

-- the subscription for a peer of whose version this is known
abbrev pub subscription_writings : Option Bool → List Writing
subscription_writings None = []
subscription_writings (Some newer) = subscription_writing newer ∷ []

-- a PONG as a command
abbrev pub pong_writing : List ℕ → Writing
pong_writing context = command (pong_body context)

-- all that the role owes a peer that has sent b, as commands and messages
abbrev pub owed_writings : Role → List ℕ → List Writing
owed_writings r b =
    cond (is_sub r && is_shaken r b) (subscription_writings (newer_of b)) [] ++ map pong_writing (contexts_in r b)
