-- What a decoder stands for, and what a piece brings to it.
use Rattle.std.specs.Prelude.{◌≡◌, ℕ, ◌+◌, Bool, true, false, List, ◌++◌, length, slice_index, Result, Ok, Err}
use Rattle.zmtp_wire.specs.declared.role.Role.{Role}
use Rattle.zmtp_wire.specs.declared.fault.WireFault.{WireFault}
use Rattle.zmtp_wire.specs.declared.fault.WireFault.TheVariants as fault
use Rattle.zmtp_wire.specs.declared.state.State.{State}
use Rattle.zmtp_wire.specs.declared.state.State.TheVariants.{Greeting, Units, Failed}
use Rattle.zmtp_wire.specs.declared.state.Phase.TheVariants.{Handshake, Traffic}
use Rattle.zmtp_wire.specs.declared.decoder.Decoder.{Decoder}
use Rattle.zmtp_wire.specs.declared.state.Open.{Open}
use Rattle.zmtp_wire.specs.declared.state.Open.TheVariants.{Fresh, Size, Body}
use Rattle.zmtp_wire.specs.Frame.{size_len}
use Rattle.zmtp_wire.specs.Machine.{ticks, reading}
use Rattle.zmtp_wire.specs.Stream.{Gives}

-- the answer of a call: Ok, or why it refused
abbrev pub Answer : Type 0
Answer = Result (Unit {0}) WireFault

-- the answer isn't that memory ran out
abbrev pub IsUnstarved : Answer → Type 0
IsUnstarved r = r ≡ Err fault.NoMemory → ⊥

-- the answer of a decoder in this state
abbrev pub answer_in : State → Answer
answer_in (Greeting p) = Ok tt
answer_in (Units phase u) = Ok tt
answer_in (Failed over e) = Err e

-- how many octets of an unfinished unit have come
abbrev pub open_len : Open → ℕ
open_len Fresh = 0
open_len (Size f octets) = length octets + 1
open_len (Body f size body) = size_len f + length body + 1

-- how many octets of what comes next a state has
abbrev pub rest_len : State → ℕ
rest_len (Greeting p) = length p
rest_len (Units phase u) = open_len u
rest_len (Failed over e) = 0

-- whether the peer's READY was read
abbrev pub shaken_in : State → Bool
shaken_in (Greeting p) = false
shaken_in (Units (Handshake newer) u) = false
shaken_in (Units (Traffic newer frames) u) = true
shaken_in (Failed over e) = over

-- ---- the decoder

-- the role whose peer the decoder reads
abbrev pub role_of : Decoder → Role
role_of d = d.role

-- Ok where the decoder reads on, and else the fault that it has for good
abbrev pub answer_of : Decoder → Answer
answer_of d = answer_in d.state

-- memory was wanted, and the decoder reads no more
abbrev pub IsStarved : Decoder → Type 0
IsStarved d = answer_of d ≡ Err fault.NoMemory

-- the decoder has read these octets, and has given these contexts
pub record StandsFor (d : Decoder) (b : List ℕ) (given : List (List ℕ)) : Type 0 where
  pub place : d.at ≡ ticks 0 (length b)
  pub major : d.version.major ≡ slice_index b 10
  pub minor : d.version.minor ≡ slice_index b 11
  pub reads : d.state ≡ (reading d.role b).state
  pub contexts : given ++ d.owed ≡ (reading d.role b).owed

-- What a piece brings that follows b: the list has grown by the messages that b with the piece gives and b hasn't
-- given, and the answer is that of b with the piece.
pub record Brings (role : Role) (b piece : List ℕ) (old new : List (List (List ℕ))) (answer : Answer) : Type 0 where
  pub before : List (List (List ℕ))
  pub more : List (List (List ℕ))
  pub owed : List (List ℕ)
  pub owed_now : List (List ℕ)
  pub answer_before : Answer
  pub gave : Gives role b before owed answer_before
  pub gives : Gives role (b ++ piece) (before ++ more) owed_now answer
  pub grown : new ≡ old ++ more

-- What stands where memory ran out: the list has grown by some of the messages that the piece brings, the first ones.
pub record BringsSome (role : Role) (b piece : List ℕ) (old new : List (List (List ℕ))) : Type 0 where
  pub before : List (List (List ℕ))
  pub more : List (List (List ℕ))
  pub left : List (List (List ℕ))
  pub owed : List (List ℕ)
  pub owed_now : List (List ℕ)
  pub answer_before : Answer
  pub answer_now : Answer
  pub gave : Gives role b before owed answer_before
  pub gives : Gives role (b ++ piece) (before ++ (more ++ left)) owed_now answer_now
  pub grown : new ≡ old ++ more
