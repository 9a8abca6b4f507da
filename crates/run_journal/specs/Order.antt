-- Two runs in which a kernel sends the same bytes, cut and ordered between its connections in whatever way.
use Rattle.std.specs.Prelude.{◌≡◌, ◌⊎◌, ℕ, ◌+◌, ◌<◌, List, [], ◌∷◌, Bool, true, false, Some, if◌then◌else◌, slice_get, map}
use Rattle.world.specs.declared.chan.Chan.{Chan}
use Rattle.world.specs.declared.chan.Chan.TheVariants.{Shell, Iopub}
use Rattle.world.specs.declared.entry.Entry.{Entry}
use Rattle.world.specs.declared.entry.Entry.TheVariants as made
use Rattle.world.specs.Places.{is_at}
use Rattle.cell_core.specs.declared.why.Why.TheVariants as cause
use Rattle.run_journal.specs.Codec.{Arrival}
use Rattle.run_journal.specs.Job.{Job}
use Rattle.run_journal.specs.Parts.{place, bytes_got}
use Rattle.run_journal.specs.Arrivals.{arrivals}
use Rattle.run_journal.specs.Requests.{Request, requests}
use Rattle.run_journal.specs.Why.{why}
use Rattle.run_journal.specs.Due.{all_along}
use Rattle.run_journal.specs.Literal.{start_at, is_for}

-- no byte came
abbrev pub is_nothing : List ℕ → Bool
is_nothing [] = true
is_nothing (b ∷ bytes) = false

-- the newest entry begins the connection only where no byte was got on it
abbrev pub begins_unread : Job → Chan → List Entry → Bool
begins_unread j c (made.Connected conn port how ∷ past) = if is_at (place j c) conn then is_nothing (bytes_got j c past) else true
begins_unread j c _ = true

-- each of these arrivals for a message of the job came later than a position
abbrev pub AreLater : Job → ℕ → ℕ → List (ℕ × Arrival) → Type 0
AreLater j number start [] = Unit {0}
AreLater j number start (a ∷ rest) = (is_for j number a.1 ≡ true → start < a.0) × AreLater j number start rest

-- what comes for each request comes later than the request came to stand
pub record ComesLater (j : Job) (past : List Entry) : Type 0 where
  pub io : (i : ℕ) (r : Request) (start : ℕ) → slice_get (requests j past) i ≡ Some r → start_at j (i + 1) past ≡ Some start → AreLater j r.number start (arrivals j Iopub past)
  pub replies : (i : ℕ) (r : Request) (start : ℕ) → slice_get (requests j past) i ≡ Some r → start_at j (i + 1) past ≡ Some start → AreLater j r.number start (arrivals j Shell past)

-- the plan was executed, or a reply was fatal
abbrev pub HasAnswered : Job → List Entry → Type 0
HasAnswered j past = (why j past ≡ Some cause.Done) ⊎ (why j past ≡ Some cause.CellError)

-- in both journals the same bytes were got for the same requests, each of which had come to stand before
pub record SameBytes (j : Job) (one two : List Entry) : Type 0 where
  pub shell : bytes_got j Shell one ≡ bytes_got j Shell two
  pub iopub : bytes_got j Iopub one ≡ bytes_got j Iopub two
  pub numbers : map (λ (r : Request). r.number) (requests j one) ≡ map (λ (r : Request). r.number) (requests j two)

-- A job that ended by itself in this journal: no connection was begun again after it was read, and what came for each request
-- came after it stood.
pub record AnswersInTurn (j : Job) (past : List Entry) : Type 0 where
  pub shell : all_along (begins_unread j Shell) past ≡ true
  pub iopub : all_along (begins_unread j Iopub) past ≡ true
  pub later : ComesLater j past
  pub answered : HasAnswered j past
