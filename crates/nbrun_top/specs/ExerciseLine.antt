-- What is said of an exercise.
use Rattle.std.specs.Prelude.{◌≡◌, ℕ, List, ◌++◌, codes}
use Rattle.std.specs.Fmt.{decimal}
use Rattle.job_end.specs.declared.answer.Answer.{Answer}
use Rattle.said_lines.specs.Lines.{spoken_line}
use Rattle.nbrun_top.specs.declared.tally.Tally.{Tally}
use Rattle.nbrun_top.specs.ExerciseRun.{IsTally}

-- the numbers of a run: the cells and outputs that it saved, and its status
abbrev pub numbers : ℕ → ℕ → ℕ → List ℕ
numbers cells outputs status =
    codes "cells " ++ decimal cells ++ codes " outputs " ++ decimal outputs ++ codes " status " ++ decimal status

-- the line of an exercise of so many cells
abbrev pub line : ℕ → Tally → List ℕ
line n t = spoken_line (codes "exercise " ++ decimal n) (numbers t.cells t.outputs t.answer.status)

-- the exercise of so many cells ended with this status, and its line has the numbers of its run
pub record IsOutcome (n : ℕ) (a : Answer) : Type 0 where
  pub tally : Tally
  pub is : IsTally n tally
  pub status : a.status ≡ tally.answer.status
  pub said : a.line ≡ line n tally
