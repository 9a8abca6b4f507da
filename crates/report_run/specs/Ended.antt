-- How a report ends, as the exit status tells it, with all that it asked of the world.
use Rattle.std.specs.Prelude.{◌≡◌, ◌⊎◌, ◌==◌, ◌||◌, ℕ, List, [], ◌∷◌, if◌then◌else◌}
use Rattle.world.specs.declared.entry.Entry.{Entry}
use Rattle.world.specs.Moments.{Since}
use Rattle.world.specs.Parts.{OnSay, IsOf}
use Rattle.said_lines.specs.Speech.{Says, heard, IsFront}
use Rattle.report_run.specs.declared.answer.Answer.{Answer}
use Rattle.report_run.specs.declared.end.End.{End}
use Rattle.report_run.specs.declared.end.End.TheVariants as end
use Rattle.report_run.specs.Codes.{code_of}
use Rattle.report_run.specs.Lines.{line}
use Rattle.report_run.specs.Ran.{Ran}

-- the path that these words name as the input, if they do
abbrev pub input_of : List (List ℕ) → List ℕ
input_of (f ∷ i ∷ rest) = i
input_of (f ∷ []) = []
input_of [] = []

-- the path that these words name as the output, if they do
abbrev pub output_of : List (List ℕ) → List ℕ
output_of (f ∷ i ∷ o ∷ rest) = o
output_of (f ∷ i ∷ []) = []
output_of (f ∷ []) = []
output_of [] = []

-- what is said at the end of a report
abbrev pub said_of : List (List ℕ) → End → List ℕ
said_of words e = line (input_of words) (output_of words) e

-- the answer has what is to be said of its end, on the paths that the words name
abbrev pub SpeaksOf : List (List ℕ) → Answer → Type 0
SpeaksOf words a = (a.end ≡ end.NoMemory) ⊎ (a.text ≡ said_of words a.end)

-- the status: that of the end, but 11 for a report that would answer 0 where saying failed
pub data Answers (failed : Type 0) : ℕ → ℕ → Type 0 where
  plain : {code : ℕ} → (code ≡ 0 → failed → ⊥) → Answers failed code code
  not_said : failed → Answers failed 0 11

-- The report ended so, by what it asked of the disk, and then its line was said. `rose`: the count of failed says
-- rose in it; `cut`: that count isn't 0 at its end.
pub record Ended (words : List (List ℕ)) (code : ℕ) (rose cut : Type 0) (before after : List Entry) : Type 0 where
  pub end : End
  pub on_disk : List Entry
  pub ran : Ran words before end on_disk
  pub answers : Answers rose (code_of end) code
  pub says : Says (said_of words end) cut on_disk after

-- What was heard is the line of how this report ended with that status, by the first entries of its journal, or a front
-- of it where a say had failed.
pub record IsHeard (words : List (List ℕ)) (code : ℕ) (rose cut : Type 0) (after : List Entry) : Type 0 where
  pub end : End
  pub on_disk : List Entry
  pub ran : Ran words [] end on_disk
  pub answers : Answers rose (code_of end) code
  pub spoken : Since (IsOf OnSay) on_disk after
  pub lines : (heard after ≡ said_of words end) ⊎ (cut × IsFront (heard after) (said_of words end))

-- how many saves a report with this status has acknowledged
abbrev pub acks_of : ℕ → ℕ
acks_of code = if (code == 0) || (code == 11) then 1 else 0
