-- How a job that ended answers.
use Rattle.std.specs.Prelude.{ℕ, List, []}
use Rattle.job_end.specs.declared.answer.Answer.{Answer}
use Rattle.job_end.specs.declared.end.End.{End}
use Rattle.job_end.specs.Statuses.{status_of}
use Rattle.job_end.specs.Reasons.{line_of}

-- memory was refused: nothing is said of the job
abbrev pub starved_answer : Answer
starved_answer = record { status = 12; line = [] }

-- the status and the line of the end; or memory was refused for the line
pub data Answers (output : List ℕ) (e : End) : Answer → Type 0 where
  said : Answers output e (record { status = status_of e; line = line_of output e })
  starved : Answers output e starved_answer
