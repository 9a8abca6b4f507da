-- The lines that a run says: one for each acknowledged save, and one for each job at its end.
use Rattle.std.specs.Prelude.{ℕ, List, [], ◌∷◌, ◌++◌, Option, Some, None, if◌then◌else◌, flat_map, slice_get, option_map, option_to_list}
use Rattle.world.specs.declared.entry.Entry.{Entry}
use Rattle.said_lines.specs.Lines.{saved_line, spoken_line}
use Rattle.run_journal.specs.Job.{Job}
use Rattle.run_journal.specs.Parts.{saves_of, is_acknowledging}
use Rattle.run_journal.specs.Requests.{or_later}
use Rattle.run_journal.specs.Saves.{Save, saves}
use Rattle.run_journal.specs.Ends.{End, Spent, Ended, ending_of, end_if, is_spent, fault_at, stop_of, reason}

-- a line: of an acknowledged save, by the settled cells, all cells and the output; the last one of a job; or the last one of
-- a run that ends before its jobs do, by what it speaks of and what it says
pub data Line : Type 0 where
  Saved : ℕ → ℕ → List ℕ → Line
  Last : End → List ℕ → Line
  Early : List ℕ → List ℕ → Line

-- the line of the save that the newest entry acknowledges
abbrev pub saved_lines : Job → List Entry → List Entry → List Line
saved_lines j now past =
    if is_acknowledging j now
    then option_to_list (option_map (λ (s : Save). Saved s.settled j.task.cells j.output) (slice_get (saves j now) (saves_of j past)))
    else []

-- the last line of a job that ends by itself at the newest entry, if it had not ended before
abbrev pub last_lines : Job → Option Ended → Option End → List Line
last_lines j (Some before) end = []
last_lines j None end = option_to_list (option_map (λ e. Last e j.output) end)

-- the lines of one job at the newest entry
abbrev pub lines_at : Job → Entry → List Entry → List Line
lines_at j entry past =
    saved_lines j (entry ∷ past) past ++ last_lines j (ending_of j past) (or_later (fault_at j entry past) (stop_of j (entry ∷ past)))

-- the lines up to the end of each job that ends by itself, in the order of the entries, and at one entry in that of the jobs
abbrev pub lines_by : List Job → List Entry → List Line
lines_by jobs [] = []
lines_by jobs (entry ∷ past) = lines_by jobs past ++ flat_map (λ j. lines_at j entry past) jobs

-- the last line of a job that didn't end by itself, where no wait is left
abbrev pub spent_line : List Entry → Job → List Line
spent_line past j = last_lines j (ending_of j past) (end_if (is_spent j past) Spent)

-- the lines of the jobs in a whole journal
abbrev pub job_lines : List Job → List Entry → List Line
job_lines jobs past = lines_by jobs past ++ flat_map (spent_line past) jobs

-- all lines of a run: those of its jobs, or those up to the one that ends it early
abbrev pub lines : List Job → List Entry → Option Line → List Line
lines jobs past None = job_lines jobs past
lines jobs past (Some early) = lines_by jobs past ++ early ∷ []

-- the text of a line, with its line feed
abbrev pub line_text : Line → List ℕ
line_text (Saved settled cells output) = saved_line output settled cells
line_text (Last end output) = spoken_line output (reason end)
line_text (Early of what) = spoken_line of what

-- all that is to be said
abbrev pub said_text : List Line → List ℕ
said_text lines = flat_map line_text lines
