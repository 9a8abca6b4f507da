-- The streams of ZMTP 3.0 and 3.1 (RFC 23 and RFC 37, "Formal Grammar") as whole lists of octets, and what breaks one.
use Rattle.std.specs.Prelude.{◌≡◌, ◌≢◌, ℕ, ◌-◌, ◌≤◌, ◌<◌, Bool, true, false, cond, List, [], ◌∷◌, ◌++◌, length, take, sum_by, Result, Ok, Err}
use Rattle.zmtp_wire.specs.declared.role.Role.{Role}
use Rattle.zmtp_wire.specs.declared.cause.Cause.{Cause}
use Rattle.zmtp_wire.specs.declared.cause.Cause.TheVariants as cause
use Rattle.zmtp_wire.specs.declared.fault.WireFault.{WireFault}
use Rattle.zmtp_wire.specs.Fault.{clip, fault_at}
use Rattle.zmtp_wire.specs.Greeting.{passes, greeting_cause, speaks}
use Rattle.zmtp_wire.specs.Frame.{MOST, is_allowed, is_command, is_more, size_len, size_of}
use Rattle.zmtp_wire.specs.Command.{error_name, WrongReady, command_contexts, command_messages}

-- ---- messages

-- a message: the bodies of its frames
abbrev pub Message : Type 0
Message = List (List ℕ)

-- the context of a PING
abbrev pub Context : Type 0
Context = List ℕ

-- ---- units

-- what stands after the greeting: a frame, which says whether more of its message follow, or a command
pub data Item : Type 0 where
  frame : (more : Bool) → List ℕ → Item
  command : List ℕ → Item

-- what a unit with this flag and body is
abbrev pub item_of : ℕ → List ℕ → Item
item_of f body = cond (is_command f) (command body) (frame (is_more f) body)

-- the octets are an allowed flag and the octets of a size
pub record Heads (p : List ℕ) (f : ℕ) (octets : List ℕ) : Type 0 where
  pub spelled : p ≡ f ∷ octets
  pub allowed : is_allowed f ≡ true
  pub len : length octets ≡ size_len f

-- the octets are a flag, a size, and a body of that size
pub record Spells (item : Item) (p : List ℕ) : Type 0 where
  pub flag : ℕ
  pub octets : List ℕ
  pub body : List ℕ
  pub head : Heads (flag ∷ octets) flag octets
  pub size : size_of octets ≡ length body
  pub means : item ≡ item_of flag body
  pub spelled : p ≡ flag ∷ (octets ++ body)

-- ---- what has come whole

-- nothing; the greeting; the greeting, READY and units
pub data Come : Type 0 where
  nothing : Come
  greeted : (greeting : List ℕ) → Come
  shaken : (greeting : List ℕ) → (items : List Item) → Come

-- The octets complete what comes next.
pub data Completes : Come → List ℕ → Come → Type 0 where
  greeting : (g : List ℕ) → length g ≡ 64 → Completes nothing g (greeted g)
  ready : (g p body : List ℕ) → Spells (command body) p → Completes (greeted g) p (shaken g [])
  unit : (g : List ℕ) (items : List Item) (item : Item) (p : List ℕ) → Spells item p → Completes (shaken g items) p (shaken g (items ++ item ∷ []))

-- the frames of the message that isn't finished, where `frames` stood open before the items
abbrev pub open_after : List (List ℕ) → List Item → List (List ℕ)
open_after frames [] = frames
open_after frames (frame true body ∷ items) = open_after (frames ++ body ∷ []) items
open_after frames (frame false body ∷ items) = open_after [] items
open_after frames (command body ∷ items) = open_after frames items

-- the messages that end in the items
abbrev pub messages_of : Role → Bool → List (List ℕ) → List Item → List (List (List ℕ))
messages_of r newer frames [] = []
messages_of r newer frames (frame true body ∷ items) = messages_of r newer (frames ++ body ∷ []) items
messages_of r newer frames (frame false body ∷ items) = (frames ++ body ∷ []) ∷ messages_of r newer [] items
messages_of r newer frames (command body ∷ items) = command_messages r newer body ++ messages_of r newer frames items

-- the contexts of the PINGs among the items
abbrev pub contexts_of : Bool → List Item → List (List ℕ)
contexts_of newer [] = []
contexts_of newer (frame more body ∷ items) = contexts_of newer items
contexts_of newer (command body ∷ items) = command_contexts newer body ++ contexts_of newer items

-- the messages that end in what has come
abbrev pub messages_come : Role → Come → List (List (List ℕ))
messages_come r nothing = []
messages_come r (greeted g) = []
messages_come r (shaken g items) = messages_of r (speaks g) [] items

-- the contexts of the PINGs in what has come
abbrev pub contexts_come : Come → List (List ℕ)
contexts_come nothing = []
contexts_come (greeted g) = []
contexts_come (shaken g items) = contexts_of (speaks g) items

-- ---- the tests

-- how many octets of a message are still free
abbrev pub room_after : List (List ℕ) → ℕ
room_after frames = MOST - sum_by length frames

-- the size that a unit with this flag may have at most
abbrev pub room_for : Come → ℕ → ℕ
room_for nothing f = MOST
room_for (greeted g) f = MOST
room_for (shaken g items) f = cond (is_command f) MOST (room_after (open_after [] items))

-- At the last of these octets, which begin what comes next, a test fails. A test that speaks of flags speaks of
-- allowed ones, so that no two tests fail at one octet, and a fault is the first at its place and the only one.
pub data Wrong (role : Role) : Come → List ℕ → Cause → Type 0 where
  greeting : (p : List ℕ) (x : ℕ) → length p < 64 → passes (length p) x ≡ false → Wrong role nothing (p ++ x ∷ []) (greeting_cause (length p))
  flags_first : (g : List ℕ) (f : ℕ) → is_allowed f ≡ false → Wrong role (greeted g) (f ∷ []) cause.Flags
  flags : (g : List ℕ) (items : List Item) (f : ℕ) → is_allowed f ≡ false → Wrong role (shaken g items) (f ∷ []) cause.Flags
  frame_first : (g : List ℕ) (f : ℕ) → is_allowed f ≡ true → is_command f ≡ false → Wrong role (greeted g) (f ∷ []) cause.Command
  too_many : (g : List ℕ) (items : List Item) (f : ℕ) → is_more f ≡ true → length (open_after [] items) ≡ 63 → Wrong role (shaken g items) (f ∷ []) cause.TooMany
  too_long_first : (g p : List ℕ) (f : ℕ) (octets : List ℕ) → Heads p f octets → MOST < size_of octets → Wrong role (greeted g) p (cause.TooLong (size_of octets))
  too_long : (g : List ℕ) (items : List Item) (p : List ℕ) (f : ℕ) (octets : List ℕ) → Heads p f octets → room_for (shaken g items) f < size_of octets
      → Wrong role (shaken g items) p (cause.TooLong (size_of octets))
  handshake : (g p body : List ℕ) (c : Cause) → Spells (command body) p → WrongReady role body c → Wrong role (greeted g) p c
  peer_error : (g : List ℕ) (items : List Item) (p : List ℕ) (f : ℕ) (octets : List ℕ) → Heads (f ∷ octets) f octets → is_command f ≡ true → 6 ≤ size_of octets
      → p ≡ f ∷ (octets ++ error_name) → Wrong role (shaken g items) p cause.PeerError

-- no test fails at any of these octets
abbrev pub Passes : Role → Come → List ℕ → Type 0
Passes role come p = (k : ℕ) (c : Cause) → Wrong role come (take k p) c → ⊥

-- ---- streams

-- the octets are these things, each whole and each passing
pub data Reads (role : Role) : List ℕ → Come → Type 0 where
  start : Reads role [] nothing
  more : (front p : List ℕ) (come next : Come) → Reads role front come → Completes come p next → Passes role come p → Reads role (front ++ p) next

-- what has come is a proper part of what comes next, and no test fails at its octets
pub record IsPart (role : Role) (come : Come) (rest : List ℕ) : Type 0 where
  pub missing : List ℕ
  pub some : missing ≢ []
  pub next : Come
  pub completes : Completes come (rest ++ missing) next
  pub passes : Passes role come rest

-- the octets are whole things that have come, and a part of the next
pub record Splits (role : Role) (b : List ℕ) (come : Come) (rest : List ℕ) : Type 0 where
  pub front : List ℕ
  pub spelled : b ≡ front ++ rest
  pub reads : Reads role front come
  pub part : IsPart role come rest

-- b is a stream with these messages, contexts of PINGs, and a rest
pub record Stream (b : List ℕ) (role : Role) (ms : List (List (List ℕ))) (owed : List (List ℕ)) (rest : List ℕ) : Type 0 where
  pub come : Come
  pub splits : Splits role b come rest
  pub messages : ms ≡ messages_come role come
  pub contexts : owed ≡ contexts_come come

-- up to `at` b is a stream with these messages and contexts, and at the octet `at` a test fails
pub record Broken (b : List ℕ) (role : Role) (e : WireFault) (at : ℕ) (ms : List (List (List ℕ))) (owed : List (List ℕ)) : Type 0 where
  pub come : Come
  pub before : List ℕ
  pub rest : List ℕ
  pub octet : ℕ
  pub after : List ℕ
  pub broken : Cause
  pub spelled : b ≡ before ++ octet ∷ after
  pub place : length before ≡ at
  pub splits : Splits role before come rest
  pub wrong : Wrong role come (rest ++ octet ∷ []) broken
  pub fault : e ≡ fault_at (clip at) broken
  pub messages : ms ≡ messages_come role come
  pub contexts : owed ≡ contexts_come come

-- b is a stream with these messages and a rest of that many octets
abbrev pub Scans : List ℕ → Role → List Message → ℕ → Type 0
Scans b role ms n = (owed : List Context) × (rest : List ℕ) × Stream b role ms owed rest × (n ≡ length rest)

-- b is broken by this fault
abbrev pub BreaksAs : List ℕ → Role → WireFault → Type 0
BreaksAs b role e = (at : ℕ) × (ms : List Message) × (owed : List Context) × Broken b role e at ms owed

-- b is a stream
abbrev pub IsStream : List ℕ → Role → Type 0
IsStream b role = (ms : List (List (List ℕ))) × (owed : List (List ℕ)) × (rest : List ℕ) × Stream b role ms owed rest

-- b is broken
abbrev pub IsBroken : List ℕ → Role → Type 0
IsBroken b role = (e : WireFault) × (at : ℕ) × (ms : List (List (List ℕ))) × (owed : List (List ℕ)) × Broken b role e at ms owed

-- the messages and contexts that b gives, and the answer: Ok where b is a stream, and else its fault
pub data Gives (role : Role) (b : List ℕ) : List (List (List ℕ)) → List (List ℕ) → Result (Unit {0}) WireFault → Type 0 where
  stream : (ms : List (List (List ℕ))) (owed : List (List ℕ)) (rest : List ℕ) → Stream b role ms owed rest → Gives role b ms owed (Ok tt)
  broken : (e : WireFault) (at : ℕ) (ms : List (List (List ℕ))) (owed : List (List ℕ)) → Broken b role e at ms owed → Gives role b ms owed (Err e)

-- b begins with a greeting and a READY for the role, each whole and passing
pub record IsShaken (role : Role) (b : List ℕ) : Type 0 where
  pub front : List ℕ
  pub rest : List ℕ
  pub greeting : List ℕ
  pub spelled : b ≡ front ++ rest
  pub reads : Reads role front (shaken greeting [])
