-- What octets are as a stream (RFC 23 and RFC 37), as functions beside the relations of Stream. The laws tie each to its relation.
use Rattle.std.specs.Prelude.{◌≡◌, ℕ, ◌-◌, Bool, List, [], ◌∷◌, ◌++◌, length, drop}
use Rattle.std.specs.Prelude.{Option, None, Some, Ok, Err}
use Rattle.zmtp_wire.specs.declared.role.Role.{Role}
use Rattle.zmtp_wire.specs.declared.fault.WireFault.{WireFault}
use Rattle.zmtp_wire.specs.Decoder.{Answer, answer_in, rest_len, shaken_in}
use Rattle.zmtp_wire.specs.Stream.{Message, Context}
use Rattle.zmtp_wire.specs.Machine.{reading}

-- the messages that end in the octets, up to a fault
unfoldable pub messages_in : Role → List ℕ → List Message
messages_in r b = (reading r b).messages

-- the contexts of the PINGs in the octets, up to a fault
unfoldable pub contexts_in : Role → List ℕ → List Context
contexts_in r b = (reading r b).owed

-- Ok where the octets are a stream, and else the fault that breaks them
unfoldable pub answer_to : Role → List ℕ → Answer
answer_to r b = answer_in (reading r b).state

-- whether the octets begin with a greeting and a READY for the role
unfoldable pub is_shaken : Role → List ℕ → Bool
is_shaken r b = shaken_in (reading r b).state

-- the octets of a stream that are unfinished: those after the last whole unit
unfoldable pub rest_in : Role → List ℕ → List ℕ
rest_in r b = drop (length b - rest_len (reading r b).state) b

-- a fault, and how many octets stand before the one at which it is certain
abbrev pub Place : Type 0
Place = WireFault × ℕ

-- the fault that this answer has at the place, or else what later octets have
abbrev pub fault_or : Answer → ℕ → Option Place → Option Place
fault_or (Ok u) at later = later
fault_or (Err e) at later = Some (e, at)

-- the first fault among octets that follow `front`, which has none
abbrev pub fault_after : Role → List ℕ → List ℕ → Option Place
fault_after r front [] = None
fault_after r front (x ∷ b) = fault_or (answer_to r (front ++ x ∷ [])) (length front) (fault_after r (front ++ x ∷ []) b)

-- what is wrong with the octets and where; None where they are a stream
unfoldable pub fault_in : Role → List ℕ → Option Place
fault_in r b = fault_after r [] b

-- a list is the front of another
pub record Begins {A : Type 0} (front all : List A) : Type 0 where
  pub rest : List A
  pub joined : all ≡ front ++ rest

-- a piece that follows b adds these messages to a list, and the octets have this answer then
pub record Adds (r : Role) (b piece : List ℕ) (old new : List Message) (answer : Answer) : Type 0 where
  pub more : List Message
  pub grown : new ≡ old ++ more
  pub messages : messages_in r (b ++ piece) ≡ messages_in r b ++ more
  pub answers : answer ≡ answer_to r (b ++ piece)
