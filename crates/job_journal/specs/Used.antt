-- What was used for the requests that stand, and what is still to be told of what came for the last one (nbclient, `async_execute_cell`).
use Rattle.std.specs.Prelude.{◌≡◌, ◌&&◌, ◌+◌, ℕ, Bool, List, [], ◌∷◌, ◌++◌, length, map, filter, Option, Some, None, if◌then◌else◌}
use Rattle.world.specs.declared.entry.Entry.{Entry}
use Rattle.world.specs.Places.{time}
use Rattle.nb_model.specs.declared.notebook.Notebook.{Notebook}
use Rattle.cell_core.specs.declared.event.Event.{Event}
use Rattle.cell_core.specs.Requests as core
use Rattle.cell_core.specs.Task.{cell_of}
use Rattle.out_fold.specs.declared.used.Used.{Used}
use Rattle.out_fold.specs.Cells as cells
use Rattle.job_notebook.specs.declared.notebook.JobNotebook.{JobNotebook}
use Rattle.job_notebook.specs.State.{Keeps}
use Rattle.run_journal.specs.Codec.{Arrival}
use Rattle.run_journal.specs.Job.{Job}
use Rattle.run_journal.specs.Arrivals.{ask_state}
use Rattle.run_journal.specs.Requests.{Request, count_queued, fresh, goes_on, is_exec_reply, is_parent, is_over, last_request, requests, used_of, with_interrupt, with_news}
use Rattle.run_journal.specs.Course.{ios, replies}
use Rattle.run_journal.specs.Agreement.{AgreesOn}

-- ---- requests with what came for them

-- a message on IOPub is of the request
abbrev pub is_own : Job → Request → Arrival → Bool
is_own j r m = is_parent j r.number m.parent

-- a message on shell is a reply to the request
abbrev pub is_reply : Job → Request → Arrival → Bool
is_reply j r m = is_exec_reply m.content && is_parent j r.number m.parent

-- a request with one more of its messages on IOPub
abbrev pub with_io : Request → Arrival → Request
with_io r m = record { number = r.number; clock = r.clock; io = r.io ++ m ∷ []; replies = r.replies; interrupted = r.interrupted }

-- a request with one more of its replies, at this clock
abbrev pub with_reply : Request → Arrival → ℕ → Request
with_reply r m clock = record { number = r.number; clock = r.clock; io = r.io; replies = r.replies ++ (m, clock) ∷ []; interrupted = r.interrupted }

-- requests with messages that came since on IOPub and on shell, at this clock
abbrev pub with_messages : Job → List Arrival → List Arrival → ℕ → List Request → List Request
with_messages j iopub shell clock rs = map (λ r. with_news j r iopub shell clock) rs

-- the requests that stand, with messages that came since on IOPub and on shell
abbrev pub so_far : Job → List Arrival → List Arrival → List Entry → List Request
so_far j iopub shell past = with_messages j iopub shell (time past) (requests j past)

-- the request that comes to stand with an entry
abbrev pub anew : Job → Entry → List Entry → Request
anew j entry past =
    with_interrupt j (entry ∷ past) (fresh (count_queued (length (ask_state j (entry ∷ past)).ids) (map (goes_on j entry past) (requests j past)) + 1) (time past))

-- ---- the notebook

-- The notebook keeps this one, as it was before its cells were executed, and what was used for these requests.
pub record OnBook (j : Job) (first : Notebook) (book : JobNotebook) (rs : List Request) : Type 0 where
  pub keeps : Keeps book first (used_of j.task.plan rs)

-- whatever a notebook keeps, it keeps with one more message used for the last request
abbrev pub Takes : Notebook → JobNotebook → JobNotebook → Arrival → Type 0
Takes given old new m = (us : List Used) (u : Used) → Keeps old given (us ++ u ∷ []) → Keeps new given (us ++ cells.with_message u m.content m.date ∷ [])

-- whatever a notebook keeps, it keeps with the date of a reply to the last request
abbrev pub Replies : Notebook → JobNotebook → JobNotebook → Arrival → Type 0
Replies given old new m = (us : List Used) (u : Used) → Keeps old given (us ++ u ∷ []) → Keeps new given (us ++ cells.with_reply u m.date ∷ [])

-- ---- the request and the core

-- a request as the job has it: the id of its message, and its cell
pub record Sent : Type 0 where
  pub id : List ℕ
  pub cell : ℕ

-- The request that the job has is the last one of these; it has none where there is none.
pub data OnRequest (j : Job) : Option Sent → List Request → Type 0 where
  nothing : OnRequest j None []
  last : {sent : Sent} {rs : List Request} (k : ℕ) (r : Request) → last_request 0 rs ≡ Some (k, r) → sent.id ≡ j.msg_id r.number
      → sent.cell ≡ cell_of j.task k → OnRequest j (Some sent) rs

-- The core knows of this request, the last one, what came for it.
pub record KnowsOf (j : Job) (told : List Event) (k : ℕ) (r : Request) : Type 0 where
  pub later : List Event
  pub standing : core.standing j.task told ≡ Some (record { request = k; later = later })
  pub agrees : AgreesOn j k later r

-- What is to be told of further messages on IOPub for this request, the last one: each of its own, up to the idle by which it is over.
abbrev pub left_io : Job → Request → List Arrival → List Event
left_io j r ms = if is_over r then [] else ios r (filter (is_own j r) ms)

-- What is to be told of further messages on shell for this request, the last one: each reply of its own, up to the one by which it is over.
abbrev pub left_replies : Job → ℕ → Request → List Arrival → List Event
left_replies j k r ms = if is_over r then [] else replies j k r (filter (is_reply j r) ms)
