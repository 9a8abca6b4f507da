-- The meaning: what is saved of the executed cells, by the messages that were used for their requests (Jupyter messaging 5.3; nbformat 4.5, `code_cell`; nbclient, `metadata.execution`).
use Rattle.std.specs.Prelude.{ℕ, Bool, false, true, ◌==◌, List, [], ◌∷◌, ◌++◌, map, flat_map, Option, Some, None, if◌then◌else◌, codes}
use Rattle.std.specs.Option.{option_or}
use Rattle.jtext.specs.declared.json.Json.{Json}
use Rattle.jtext.specs.declared.json.Json.TheVariants as json
use Rattle.jcontent.specs.declared.content.Content.{Content}
use Rattle.jcontent.specs.declared.content.Content.TheVariants as content
use Rattle.jcontent.specs.declared.state.State.{State}
use Rattle.jcontent.specs.declared.state.State.TheVariants as state
pub use Rattle.out_fold.specs.declared.message.Message.{Message}
pub use Rattle.out_fold.specs.declared.used.Used.{Used}
use Rattle.out_fold.specs.Shown.{outputs}
use Rattle.out_fold.specs.Joined.{join}
use Rattle.out_fold.specs.Tree.{output_tree}

-- a request for which nothing was used yet
abbrev pub begin : ℕ → Used
begin cell = record { cell = cell; own = []; reply = None }

-- with one more message
abbrev pub with_message : Used → Content → Option (List ℕ) → Used
with_message u c date = record { cell = u.cell; own = u.own ++ record { content = c; date = date } ∷ []; reply = u.reply }

-- with its reply
abbrev pub with_reply : Used → Option (List ℕ) → Used
with_reply u date = record { cell = u.cell; own = u.own; reply = date }

-- what the messages of a request say, in order
abbrev pub contents : Used → List Content
contents u = map (λ m. m.content) u.own

-- the contents of all these requests, one after another
abbrev pub all_contents : List Used → List Content
all_contents us = flat_map contents us

-- these outputs, joined where that is asked for
abbrev pub joined_where : Bool → List Content → List Content
joined_where merge cs = if merge then join cs else cs

-- the outputs of the cell: empty where it was not begun
abbrev pub outputs_of : Bool → List Used → ℕ → List Json
outputs_of merge [] cell = []
outputs_of merge (u ∷ us) cell = if u.cell == cell then map output_tree (joined_where merge (outputs (contents u) (all_contents us))) else outputs_of merge us cell

-- the execution count that a message tells
abbrev pub count_in : Content → Option (List ℕ)
count_in (content.Input count) = count
count_in (content.Outcome shown count) = count
count_in _ = None

-- the last count told; where there is none, this
abbrev pub last_count : Option (List ℕ) → List Content → Option (List ℕ)
last_count before [] = before
last_count before (c ∷ rest) = last_count (option_or (count_in c) before) rest

-- the execution count of the cell
abbrev pub count_of : List Used → ℕ → Option (List ℕ)
count_of [] cell = None
count_of (u ∷ us) cell = if u.cell == cell then last_count None (contents u) else count_of us cell

-- `status`, of that state
abbrev pub is_busy : State → Bool
is_busy state.Busy = true
is_busy _ = false

-- `status`, of the state idle
abbrev pub is_idle : State → Bool
is_idle state.Idle = true
is_idle _ = false

-- the kinds of messages whose dates are kept
abbrev pub says_busy : Content → Bool
says_busy (content.Status s) = is_busy s
says_busy _ = false

-- the kernel says that it is idle
abbrev pub says_idle : Content → Bool
says_idle (content.Status s) = is_idle s
says_idle _ = false

-- the kernel tells which input it runs
abbrev pub is_input : Content → Bool
is_input (content.Input count) = true
is_input _ = false

-- the date of the last message of the kind; where there is none, this
abbrev pub last_date : (Content → Bool) → Option (List ℕ) → List Message → Option (List ℕ)
last_date kind before [] = before
last_date kind before (m ∷ rest) = last_date kind (if kind m.content then m.date else before) rest

-- the pair of a date, where there is one
abbrev pub date_pair : List ℕ → Option (List ℕ) → List (List ℕ × Json)
date_pair key None = []
date_pair key (Some date) = (key, json.Str date) ∷ []

-- the pairs of `metadata.execution`, by these four dates
abbrev pub date_pairs : Option (List ℕ) → Option (List ℕ) → Option (List ℕ) → Option (List ℕ) → List (List ℕ × Json)
date_pairs input busy idle reply = date_pair (codes "iopub.execute_input") input ++ (date_pair (codes "iopub.status.busy") busy ++ (date_pair (codes "iopub.status.idle") idle ++ date_pair (codes "shell.execute_reply") reply))

-- the dates of the cell
abbrev pub dates_of : List Used → ℕ → List (List ℕ × Json)
dates_of [] cell = []
dates_of (u ∷ us) cell =
    if u.cell == cell then date_pairs (last_date is_input None u.own) (last_date says_busy None u.own) (last_date says_idle None u.own) u.reply
    else dates_of us cell
