-- When what is to happen happens: in order, each pause putting off what follows it.
use Rattle.std.specs.Prelude.{ℕ, ℤ, ◌+◌, Bool, true, false, cond, nat_le, List, [], ◌∷◌, length, drop, Option, Some, None, flat_map}
use Rattle.jtext.specs.declared.json.Json.{Json}
use Rattle.world.specs.declared.chan.Chan.{Chan}
use Rattle.world.specs.declared.chan.Chan.TheVariants as chan
use Rattle.toy_core.specs.declared.act.Act.{Act}
use Rattle.toy_core.specs.declared.act.Act.TheVariants.{Send, Pause, End, Close}

-- the acts that have happened by a moment, where the first begins at `since`
abbrev pub acts_by : ℕ → ℕ → List Act → List Act
acts_by now since [] = []
acts_by now since (Send c octets ∷ acts) = Send c octets ∷ acts_by now since acts
acts_by now since (Pause ms ∷ acts) = cond (nat_le (since + ms) now) (Pause ms ∷ acts_by now (since + ms) acts) []
acts_by now since (End status ∷ acts) = End status ∷ []
acts_by now since (Close parent count ∷ acts) = Close parent count ∷ acts_by now since acts

-- the acts that haven't
abbrev pub acts_left : ℕ → ℕ → List Act → List Act
acts_left now since acts = drop (length (acts_by now since acts)) acts

-- the moment at which the first act that hasn't happened begins
abbrev pub begun_at : ℕ → ℕ → List Act → ℕ
begun_at now since [] = since
begun_at now since (Send c octets ∷ acts) = begun_at now since acts
begun_at now since (Pause ms ∷ acts) = cond (nat_le (since + ms) now) (begun_at now (since + ms) acts) since
begun_at now since (End status ∷ acts) = since
begun_at now since (Close parent count ∷ acts) = begun_at now since acts

-- the status with which acts end the kernel
abbrev pub ending : List Act → Option ℤ
ending [] = None
ending (Send c octets ∷ acts) = ending acts
ending (Pause ms ∷ acts) = ending acts
ending (End status ∷ acts) = Some status
ending (Close parent count ∷ acts) = ending acts

-- they are one channel
abbrev pub is_chan : Chan → Chan → Bool
is_chan chan.Shell chan.Shell = true
is_chan chan.Shell chan.Control = false
is_chan chan.Shell chan.Iopub = false
is_chan chan.Shell chan.Heart = false
is_chan chan.Control chan.Shell = false
is_chan chan.Control chan.Control = true
is_chan chan.Control chan.Iopub = false
is_chan chan.Control chan.Heart = false
is_chan chan.Iopub chan.Shell = false
is_chan chan.Iopub chan.Control = false
is_chan chan.Iopub chan.Iopub = true
is_chan chan.Iopub chan.Heart = false
is_chan chan.Heart chan.Shell = false
is_chan chan.Heart chan.Control = false
is_chan chan.Heart chan.Iopub = false
is_chan chan.Heart chan.Heart = true

-- the octets that an act sends on a channel
abbrev pub octets_of : Chan → Act → List ℕ
octets_of c (Send d octets) = cond (is_chan d c) octets []
octets_of c (Pause ms) = []
octets_of c (End status) = []
octets_of c (Close parent count) = []

-- the octets that acts send on a channel
abbrev pub octets_on : Chan → List Act → List ℕ
octets_on c acts = flat_map (octets_of c) acts

-- the request header and the count of the first cell that is over among acts
abbrev pub first_close : List Act → Option (Json × ℕ)
first_close [] = None
first_close (Send c octets ∷ acts) = first_close acts
first_close (Pause ms ∷ acts) = first_close acts
first_close (End status ∷ acts) = first_close acts
first_close (Close parent count ∷ acts) = Some (parent, count)

-- what follows the first cell
abbrev pub after_close : List Act → List Act
after_close [] = []
after_close (Send c octets ∷ acts) = after_close acts
after_close (Pause ms ∷ acts) = after_close acts
after_close (End status ∷ acts) = after_close acts
after_close (Close parent count ∷ acts) = acts
