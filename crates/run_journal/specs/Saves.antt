-- The saves of a job that are due: each with how many cells it settles, and its text (papermill, which saves after each cell).
use Rattle.std.specs.Prelude.{ℕ, ◌+◌, ◌==◌, ◌&&◌, ◌||◌, List, [], ◌∷◌, ◌++◌, Bool, false, not, Option, Some, None, if◌then◌else◌, length, map, nat_lt}
use Rattle.world.specs.declared.entry.Entry.{Entry}
use Rattle.world.specs.Acked.{renames}
use Rattle.world.specs.Disk as disk
use Rattle.words.specs.Paths.{temporary_of}
use Rattle.cell_core.specs.declared.why.Why.{Why}
use Rattle.cell_core.specs.Saves.{is_stop}
use Rattle.out_fold.specs.declared.used.Used.{Used}
use Rattle.run_journal.specs.Job.{Job, Given, Refuses, Prepares, Runs}
use Rattle.run_journal.specs.Parts.{before_shut}
use Rattle.run_journal.specs.Requests.{Request, use_of, used_of, is_passed, is_last_passed, requests}
use Rattle.run_journal.specs.Why.{plan_end, why}

-- a save: how many cells it settles, and its text
pub record Save : Type 0 where
  pub settled : ℕ
  pub text : List ℕ

-- the save of what was used so far
abbrev pub save : Job → List Used → ℕ → Option ℕ → Save
save j us settled stop = record { settled = settled; text = j.print us settled stop }

-- ---- where a notebook is run

-- One for each request that is passed, the first of these being request k. Before them this was used.
abbrev pub passes : Job → List Used → ℕ → List ℕ → List Request → List Save
passes j front k (i ∷ plan) (r ∷ rs) =
    if is_passed j k r then save j (front ++ use_of i r ∷ []) (i + 1) None ∷ passes j (front ++ use_of i r ∷ []) (k + 1) plan rs else []
passes j front k plan rs = []

-- a cause for which the last request's cell is saved as the stopping cell
abbrev pub is_marked : Option Why → Bool
is_marked None = false
is_marked (Some cause) = is_stop cause

-- the index of the cell of the last of these requests
abbrev pub last_cell : List ℕ → List Request → Option ℕ
last_cell (i ∷ plan) (r ∷ []) = Some i
last_cell (i ∷ plan) (r ∷ s ∷ rs) = last_cell plan (s ∷ rs)
last_cell plan rs = None

-- the save of a stop at a cell
abbrev pub stop_save : Job → List Request → Option ℕ → List Save
stop_save j rs None = []
stop_save j rs (Some i) = save j (used_of j.task.plan rs) (i + 1) (Some i) ∷ []

-- the save of a stop while a request stands that isn't passed
abbrev pub stopping : Job → List Request → Option Why → List Save
stopping j rs w = if is_marked w && not (is_last_passed j 0 rs) then stop_save j rs (last_cell j.task.plan rs) else []

-- each request of the plan is passed
abbrev pub is_complete : Job → List Request → Bool
is_complete j rs = length rs == length j.task.plan && (length j.task.plan == 0 || is_last_passed j 0 rs)

-- the save of the whole notebook, where the one before settles less
abbrev pub closing : Job → List Request → List Save
closing j rs =
    if is_complete j rs && nat_lt (plan_end j.task.plan) j.task.cells then save j (used_of j.task.plan rs) j.task.cells None ∷ [] else []

-- all saves of a run: of the prepared notebook, after each passed request, after a stop, and of the whole
abbrev pub run_saves : Job → List Request → Option Why → List Save
run_saves j rs w = save j [] 0 None ∷ passes j [] 0 j.task.plan rs ++ stopping j rs w ++ closing j rs

-- ---- all

-- the saves by what the input gives: none, that of the notebook that is only prepared, or those of a run
abbrev pub saves_for : Job → Given → List Request → Option Why → List Save
saves_for j (Refuses status text) rs w = []
saves_for j (Prepares text) rs w = record { settled = 0; text = text } ∷ []
saves_for j Runs rs w = run_saves j rs w

-- the saves that are due by now
abbrev pub saves_by : Job → List Entry → List Save
saves_by j past = saves_for j j.given (requests j past) (why j past)

-- the saves of the job in a journal: those due before its first close
abbrev pub saves : Job → List Entry → List Save
saves j past = saves_by j (before_shut j past)

-- how many cells each of these settles
abbrev pub settled_by : List Save → List ℕ
settled_by ss = map (λ (s : Save). s.settled) ss

-- their texts
abbrev pub texts : Job → List Entry → List (List ℕ)
texts j past = map (λ (s : Save). s.text) (saves j past)

-- ---- what was renamed onto the output

-- The text that each done rename from the temporary file onto the output gave it, in order; None where it isn't known,
-- since a write of it failed.
abbrev pub renamed_texts : Job → List Entry → List (Option (List ℕ))
renamed_texts j [] = []
renamed_texts j (entry ∷ past) =
    if renames (temporary_of j.output) j.output entry
    then renamed_texts j past ++ (disk.place past (temporary_of j.output)).fresh ∷ []
    else renamed_texts j past
