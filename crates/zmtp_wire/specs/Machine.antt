-- The decoder's steps: what each octet does to its state. They are compared with the relation of Stream by the laws.
use Rattle.std.specs.Prelude.{◌≡◌, ℕ, ◌+◌, ◌-◌, Bool, true, false, cond, ◌&&◌, nat_lt, nat_eq, List, [], ◌∷◌, ◌++◌, length, take, drop, Option, None, Some, zero, suc}
use Rattle.std.specs.List.{starts_with}
use Rattle.std.specs.Int.{w32, from_be_bytes}
use Rattle.zmtp_wire.specs.declared.role.Role.{Role}
use Rattle.zmtp_wire.specs.declared.cause.Cause.{Cause}
use Rattle.zmtp_wire.specs.declared.cause.Cause.TheVariants as cause
use Rattle.zmtp_wire.specs.declared.state.State.{State}
use Rattle.zmtp_wire.specs.declared.state.State.TheVariants.{Greeting, Units, Failed}
use Rattle.zmtp_wire.specs.declared.state.Phase.{Phase}
use Rattle.zmtp_wire.specs.declared.state.Phase.TheVariants.{Handshake, Traffic}
use Rattle.zmtp_wire.specs.declared.state.Open.{Open}
use Rattle.zmtp_wire.specs.declared.state.Open.TheVariants.{Fresh, Size, Body}
use Rattle.zmtp_wire.specs.Fault.{clip, fault_at}
use Rattle.zmtp_wire.specs.Greeting.{passes, greeting_cause, speaks}
use Rattle.zmtp_wire.specs.Frame.{MOST, is_allowed, is_command, is_more, size_len, size_of}
use Rattle.zmtp_wire.specs.Command.{Property, error_name, ready_name, is_type_name, is_peer, socket_type, command_contexts, command_messages}

-- ---- the first command

-- the properties, where this one stands before them
abbrev pub with_property : Property → Option (List Property) → Option (List Property)
with_property p None = None
with_property p (Some ps) = Some (p ∷ ps)

-- The properties that the octets spell. Each takes five octets and more, so that their number of octets is steps enough.
unfoldable pub properties_in : ℕ → List ℕ → Option (List Property)
properties_in steps [] = Some []
properties_in zero (n ∷ r) = None
properties_in (suc steps) (n ∷ r) =
    cond (nat_lt (length r) (n + 4)) None
    (cond (nat_lt (length (drop 4 (drop n r))) (from_be_bytes w32 (drop n r))) None
    (with_property (take n r, take (from_be_bytes w32 (drop n r)) (drop 4 (drop n r)))
    (properties_in steps (drop (from_be_bytes w32 (drop n r)) (drop 4 (drop n r))))))

-- the properties that the octets spell
abbrev pub properties : List ℕ → Option (List Property)
properties b = properties_in (length b) b

-- whether the peer fits, where nothing or this was found before the property
abbrev pub after_one : Role → Property → Option Bool → Option Bool
after_one r p None = cond (is_type_name p.0) (Some (is_peer r (Some p.1))) None
after_one r p (Some a) = Some a

-- what is wrong with these properties of a READY
abbrev pub ready_cause : Role → Option (List Property) → Option Cause
ready_cause r None = Some cause.Command
ready_cause r (Some ps) = cond (is_peer r (socket_type ps)) None (Some cause.WrongPeer)

-- what is wrong with the body of the first command
abbrev pub handshake_cause : Role → List ℕ → Option Cause
handshake_cause r body =
    cond (starts_with nat_eq body error_name) (Some cause.PeerError)
    (cond (starts_with nat_eq body ready_name) (ready_cause r (properties (drop 6 body))) (Some cause.Command))

-- ---- states

-- the state after some octets, and what they gave
pub record Took : Type 0 where
  pub state : State
  pub messages : List (List (List ℕ))
  pub owed : List (List ℕ)

-- a state that was reached and gave nothing
abbrev pub quiet : State → Took
quiet s = record { state = s; messages = []; owed = [] }

-- the number of octets after one more
abbrev pub tick : ℕ → ℕ
tick at = clip (at + 1)

-- whether the handshake is over in this phase
abbrev pub is_over : Phase → Bool
is_over (Handshake newer) = false
is_over (Traffic newer frames) = true

-- the state at the octet `at` that failed in this phase
abbrev pub failure : Phase → ℕ → Cause → State
failure phase at c = Failed (is_over phase) (fault_at at c)

-- ---- one octet

-- what an octet of the greeting brings
unfoldable pub greeting_step : ℕ → List ℕ → ℕ → State
greeting_step at p x =
    cond (passes (length p) x)
    (cond (nat_eq (length p) 63) (Units (Handshake (speaks (p ++ x ∷ []))) Fresh) (Greeting (p ++ x ∷ [])))
    (Failed false (fault_at at (greeting_cause (length p))))

-- what an allowed flag octet brings
abbrev pub flag_state : ℕ → Phase → ℕ → State
flag_state at (Handshake newer) f = cond (is_command f) (Units (Handshake newer) (Size f [])) (failure (Handshake newer) at cause.Command)
flag_state at (Traffic newer frames) f = cond (is_more f && nat_eq (length frames) 63) (failure (Traffic newer frames) at cause.TooMany) (Units (Traffic newer frames) (Size f []))

-- what a flag octet brings
unfoldable pub flag_step : ℕ → Phase → ℕ → State
flag_step at phase f = cond (is_allowed f) (flag_state at phase f) (failure phase at cause.Flags)

-- how many octets are left of the room beside these frames
abbrev pub room_left : ℕ → List (List ℕ) → ℕ
room_left room [] = room
room_left room (p ∷ ps) = room_left (room - length p) ps

-- how many octets a unit with this flag may have
abbrev pub room_in : Phase → ℕ → ℕ
room_in (Handshake newer) f = MOST
room_in (Traffic newer frames) f = cond (is_command f) MOST (room_left MOST frames)

-- what a first command brings
abbrev pub after_handshake : ℕ → Bool → Option Cause → State
after_handshake at newer None = Units (Traffic newer []) Fresh
after_handshake at newer (Some c) = failure (Handshake newer) at c

-- what a whole unit brings
unfoldable pub finish : Role → ℕ → Phase → ℕ → List ℕ → Took
finish r at (Handshake newer) f body = quiet (after_handshake at newer (handshake_cause r body))
finish r at (Traffic newer frames) f body =
    cond (is_command f)
    (record { state = Units (Traffic newer frames) Fresh; messages = command_messages r newer body; owed = command_contexts newer body })
    (cond (is_more f)
    (quiet (Units (Traffic newer (frames ++ body ∷ [])) Fresh))
    (record { state = Units (Traffic newer []) Fresh; messages = (frames ++ body ∷ []) ∷ []; owed = [] }))

-- what a whole size brings
unfoldable pub size_step : Role → ℕ → Phase → ℕ → ℕ → Took
size_step r at phase f size =
    cond (nat_lt (room_in phase f) size) (quiet (failure phase at (cause.TooLong size)))
    (cond (nat_eq size 0) (finish r at phase f []) (quiet (Units phase (Body f size []))))

-- after the handshake an ERROR shows at its sixth octet
abbrev pub is_error : Phase → ℕ → List ℕ → Bool
is_error (Handshake newer) f body = false
is_error (Traffic newer frames) f body = is_command f && nat_eq (length body) 6 && starts_with nat_eq body error_name

-- what an octet of a body brings
unfoldable pub body_step : Role → ℕ → Phase → ℕ → ℕ → List ℕ → Took
body_step r at phase f size body =
    cond (is_error phase f body) (quiet (failure phase at cause.PeerError))
    (cond (nat_lt (length body) size) (quiet (Units phase (Body f size body))) (finish r at phase f body))

-- what an octet of a unit brings
abbrev pub unit_step : Role → ℕ → Phase → Open → ℕ → Took
unit_step r at phase Fresh x = quiet (flag_step at phase x)
unit_step r at phase (Size f octets) x =
    cond (nat_lt (length (octets ++ x ∷ [])) (size_len f)) (quiet (Units phase (Size f (octets ++ x ∷ []))))
    (size_step r at phase f (size_of (octets ++ x ∷ [])))
unit_step r at phase (Body f size body) x = body_step r at phase f size (body ++ x ∷ [])

-- what an octet brings
abbrev pub step : Role → ℕ → State → ℕ → Took
step r at (Greeting p) x = quiet (greeting_step at p x)
step r at (Units phase frames) x = unit_step r at phase frames x
step r at (Failed over e) x = quiet (Failed over e)

-- ---- many octets

-- the one after the other
abbrev pub before : Took → Took → Took
before t u = record { state = u.state; messages = t.messages ++ u.messages; owed = t.owed ++ u.owed }

-- what octets bring to a state
unfoldable pub run : Role → ℕ → State → List ℕ → Took
run r at s [] = quiet s
run r at s (x ∷ xs) = before (step r at s x) (run r (tick at) (step r at s x).state xs)

-- what a new decoder reads in the octets
abbrev pub reading : Role → List ℕ → Took
reading r b = run r 0 (Greeting []) b

-- the number of octets after n more
abbrev pub ticks : ℕ → ℕ → ℕ
ticks at n = clip (at + n)

-- a list has grown by some of these messages, the first ones
pub record GrowsBy (old new all : List (List (List ℕ))) : Type 0 where
  pub more : List (List (List ℕ))
  pub left : List (List (List ℕ))
  pub grown : new ≡ old ++ more
  pub first : all ≡ more ++ left
