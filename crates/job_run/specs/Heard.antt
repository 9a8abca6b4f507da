-- What is heard of the kernel (Jupyter messaging 5.3).
use Rattle.std.specs.Prelude.{◌≡◌, ℕ, List, [], ◌∷◌, ◌++◌, ◌≤◌, map, Option, Some, None, Bool, ◌&&◌, ◌==◌, false}
use Rattle.std.specs.List.{Contains, AllByRecursion}
use Rattle.std.specs.Str.{bytes_eq}
use Rattle.world.specs.declared.chan.Chan.{Chan}
use Rattle.world.specs.declared.chan.Chan.TheVariants.{Shell, Control, Iopub, Heart}
use Rattle.jtext.specs.declared.json.Json.{Json}
use Rattle.jtext.specs.Depth.{depth}
use Rattle.jtext.specs.Keyed.{Keyed}
use Rattle.jsign.specs.History.{recent}
use Rattle.jmsg.specs.declared.message.Message.{Message}
use Rattle.jmsg.specs.Signed.{Signed}
use Rattle.kernel_talk.specs.Asking.{Asked, answered_by}
use Rattle.kernel_talk.specs.Pinging.{after_echo}
use Rattle.run_journal.specs.Codec.{Arrival}
use Rattle.run_journal.specs.Jupyter.{arrival_of}
use Rattle.job_journal.specs.Seen.{HasSeen, HasHeard}
use Rattle.job_journal.specs.Talk.{heard_on_shell, heard_on_iopub}
use Rattle.job_run.specs.declared.execution.Execution.{Execution}
use Rattle.job_run.specs.declared.request.Request.{Request}

-- the content of a message that was decoded: no object in it has a key twice, and it nests at most 100 deep
pub record IsContent (t : Json) : Type 0 where
  pub keyed : Keyed t
  pub nests : depth t ≤ 100

-- the signature is not among those that were seen
abbrev pub IsUnseen : List (List ℕ) → List ℕ → Type 0
IsUnseen seen signature = ¬ (Contains seen signature)

-- these parts are a message signed under the key, whose signature was unseen and is seen now
pub record IsFresh (key : List ℕ) (parts was now : List (List ℕ)) (m : Message) : Type 0 where
  pub signed : Signed key parts m
  pub unseen : IsUnseen was signed.0.signature
  pub seen : now ≡ recent (was ++ signed.0.signature ∷ [])

-- these parts are no message signed under the key whose signature was unseen, and those that were seen stay
pub record IsStale (key : List ℕ) (parts was now : List (List ℕ)) : Type 0 where
  pub seen : (m : Message) (signed : Signed key parts m) → ¬ (IsUnseen was signed.0.signature)
  pub same : now ≡ was

-- what is heard of these parts on a channel with these signatures, which become those: the message that they are, if it is fresh
abbrev pub HearsOf : List ℕ → List (List ℕ) → List (List ℕ) → List (List ℕ) → Option Message → Type 0
HearsOf key parts was now (Some m) = IsFresh key parts was now m
HearsOf key parts was now None = IsStale key parts was now

-- the contents of messages that were decoded
abbrev pub AreContents : List Message → Type 0
AreContents ms = AllByRecursion (λ m. IsContent m.content) ms

-- ---- what is heard in the bodies that a piece brings

-- messages as they arrive
abbrev pub arrivals_of : List Message → List Arrival
arrivals_of ms = map arrival_of ms

-- These messages are heard in the bodies, whatever came before on the channel: the signed ones, none whose signature is among the
-- last 65,536 that were kept. Their signatures are seen.
abbrev pub HearsAll : List ℕ → List (List (List ℕ)) → List (List ℕ) → List (List ℕ) → List Message → Type 0
HearsAll key bodies was now ms = (before : List (List (List ℕ))) → HasSeen key was before → HasHeard key before bodies now (arrivals_of ms)

-- what a reply to kernel info makes of the asking, by its parent
abbrev pub answered : Asked → Option (List ℕ) → Asked
answered a None = a
answered a (Some parent) = answered_by a parent

-- of an execution only the signatures that were seen, the asking and the pings have changed
abbrev pub Listens : Execution → Execution → Type 0
Listens x y = y ≡ record x { seen = y.seen; asking = y.asking; pings = y.pings }

-- what is heard of these bodies on shell, and what it makes of the asking
pub record HearsShell (bodies : List (List (List ℕ))) (x y : Execution) (ms : List Message) : Type 0 where
  pub heard : HearsAll x.session.key bodies x.seen.shell y.seen.shell ms
  pub asking : y.asking ≡ heard_on_shell x.asking (arrivals_of ms)
  pub iopub : y.seen.iopub ≡ x.seen.iopub
  pub pings : y.pings ≡ x.pings

-- what is heard of these bodies on IOPub, and what it makes of the asking
pub record HearsIopub (bodies : List (List (List ℕ))) (x y : Execution) (ms : List Message) : Type 0 where
  pub heard : HearsAll x.session.key bodies x.seen.iopub y.seen.iopub ms
  pub asking : y.asking ≡ heard_on_iopub x.asking (arrivals_of ms)
  pub shell : y.seen.shell ≡ x.seen.shell
  pub pings : y.pings ≡ x.pings

-- replies to an interrupt or a shutdown are used for nothing
pub record HearsControl (x y : Execution) (ms : List Message) : Type 0 where
  pub same : y ≡ x
  pub none : ms ≡ []

-- each message on the heartbeat is an echo, whatever it holds
abbrev pub echoed : List (List (List ℕ)) → Execution → Execution
echoed [] x = x
echoed (body ∷ bodies) x = record x { pings = after_echo x.pings }

-- no message on the heartbeat is used for a request
pub record HearsHeart (bodies : List (List (List ℕ))) (x y : Execution) (ms : List Message) : Type 0 where
  pub echo : y ≡ echoed bodies x
  pub none : ms ≡ []

-- what is heard of the bodies that came on a channel
abbrev pub HearsOn : Chan → List (List (List ℕ)) → Execution → Execution → List Message → Type 0
HearsOn Shell bodies x y ms = HearsShell bodies x y ms
HearsOn Iopub bodies x y ms = HearsIopub bodies x y ms
HearsOn Control bodies x y ms = HearsControl x y ms
HearsOn Heart bodies x y ms = HearsHeart bodies x y ms

-- ---- what belongs to a request

-- this request has this parent's id
abbrev pub is_parent_of : Option Request → Option (List ℕ) → Bool
is_parent_of None parent = false
is_parent_of (Some r) None = false
is_parent_of (Some r) (Some parent) = bytes_eq r.id parent

-- a message is of the request that stands, where no request was sent since so many were
abbrev pub is_of : Execution → ℕ → Message → Bool
is_of x standing m = (x.sent == standing) && is_parent_of x.request m.parent_id
