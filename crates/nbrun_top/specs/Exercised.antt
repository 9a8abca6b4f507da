-- How a run ends that does the exercise: only its line is said.
use Rattle.std.specs.Prelude.{ℕ, List, []}
use Rattle.job_end.specs.declared.answer.Answer.{Answer}
use Rattle.said_lines.specs.Speech.{Says}
use Rattle.world.specs.declared.entry.Entry.{Entry}
use Rattle.nbrun_top.specs.declared.end.End.TheVariants as end
use Rattle.nbrun_top.specs.Ended.{Answers}
use Rattle.nbrun_top.specs.Lines.{all_lines}

-- The exercise may end with such answers. Its line was said and the status is that of its answer, or memory was refused.
-- `rose`: the count of failed says rose in the run; `cut`: that count isn't 0 at its end.
pub data Exercised (ends : Answer → Type 0) (rose cut : Type 0) (before : List Entry) : ℕ → List Entry → Type 0 where
  ended : (a : Answer) (code : ℕ) (after : List Entry) → ends a → Answers rose a.status code → Says a.line cut before after
      → Exercised ends rose cut before code after
  starved : (after : List Entry) → Says (all_lines [] [] end.NoMemory) cut before after → Exercised ends rose cut before 12 after
