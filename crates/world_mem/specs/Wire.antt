-- What a world in memory answers to calls on connections.
use Rattle.std.specs.Prelude.{
  ◌≡◌,
  ◌==◌,
  ◌≤◌,
  ℕ,
  ◌+◌,
  ◌*◌,
  ◌-◌,
  ◌^◌,
  min,
  max,
  ltb,
  not,
  List,
  [],
  ◌∷◌,
  length,
  take,
  Bool,
  true,
  false,
  Option,
  Some,
  None,
  slice_get,
  unwrap_or,
  if◌then◌else◌,
}
use Rattle.std.specs.List.{list_any}
use Rattle.world.specs.declared.connected.Connected.{Connected}
use Rattle.world.specs.declared.connected.Connected.TheVariants as connected
use Rattle.world.specs.declared.did.Did.{Did}
use Rattle.world.specs.declared.did.Did.TheVariants as did
use Rattle.world.specs.declared.got.Got.{Got}
use Rattle.world.specs.declared.got.Got.TheVariants as got
use Rattle.world.specs.declared.put.Put.{Put}
use Rattle.world.specs.declared.put.Put.TheVariants as put
use Rattle.world.specs.Kernel.{Given, Hands, Waits, Over}

-- the ports of a job: five from 1001 on, and five further for each job before it
abbrev pub ports_of : ℕ → List ℕ
ports_of job =
    (1001 + 5 * job) ∷ (1002 + 5 * job) ∷ (1003 + 5 * job) ∷ (1004 + 5 * job) ∷ (1005 + 5 * job) ∷ []

-- the ports, where the call doesn't fail
abbrev pub ports_unless : Bool → ℕ → Option (List ℕ)
ports_unless true job = None
ports_unless false job = Some (ports_of job)

-- a connect fails by its number, or is refused by the script, or goes by what the kernel says
abbrev pub connected_by : Bool → Bool → Bool → Connected
connected_by true refuses accepts = connected.Failed
connected_by false true accepts = connected.Refused
connected_by false false true = connected.Begun
connected_by false false false = connected.Refused

-- there are connects left that the script refuses
abbrev pub is_refusing : ℕ → Bool
is_refusing refusals = not (refusals == 0)

-- the room that a read leaves a kernel: the buffer's, cut to the cap of its turn, of which 0 counts as 1
abbrev pub room_of : List ℕ → ℕ → ℕ → ℕ
room_of pieces turn room = min room (max 1 (unwrap_or (slice_get pieces turn) room))

-- the turn of the next read: from the last cap on to the first again
abbrev pub turn_after : List ℕ → ℕ → ℕ
turn_after pieces turn = if ltb (turn + 1) (length pieces) then turn + 1 else 0

-- the answer of a read and the buffer after it are what stood ready
abbrev pub GotAs : Given → Got → List ℕ → Type 0
GotAs (Hands bytes) (got.Piece n) buffer = (1 ≤ n) × (n ≤ length buffer) × (take n buffer ≡ bytes)
GotAs Waits got.Dry buffer = Unit {0}
GotAs Over got.Ended buffer = Unit {0}
-- no other answer fits
GotAs _ _ buffer = ⊥

-- a read fails by its number, or answers what stood ready
abbrev pub ReadAs : Bool → Given → Got → List ℕ → Type 0
ReadAs true given answer buffer = answer ≡ got.Failed
ReadAs false given answer buffer = GotAs given answer buffer

-- the answer of a write, by whether it failed: it takes the whole piece
abbrev pub put_by : Did → ℕ → Put
put_by did.Done size = put.Took size
put_by did.Failed size = put.Failed

-- whether a write to a connection failed
abbrev pub did_put : Put → Did
did_put put.Failed = did.Failed
did_put _ = did.Done

-- some place is reported
abbrev pub is_any : List Bool → Bool
is_any ready = list_any (λ b. b) ready

-- the clock after a done wait: it moves on by the limit where no place is reported, at most to its last value
abbrev pub clock_after : List Bool → ℕ → ℕ → ℕ
clock_after ready clock ms = if is_any ready then clock else min (clock + ms) (2 ^ 47 - 1)

-- the clock after a wait, by whether it failed
abbrev pub clock_by : Did → List Bool → ℕ → ℕ → ℕ
clock_by did.Done ready clock ms = clock_after ready clock ms
clock_by did.Failed ready clock ms = clock
