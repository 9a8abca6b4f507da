-- Runs whose words ask for the exercise.
use Rattle.std.proofs.Common.{◌≡◌, ℕ, List, sym, ◌∙◌}
use Rattle.job_end.specs.declared.answer.Answer.{Answer}
use Rattle.said_lines.specs.Speech.{Says}
use Rattle.words.specs.declared.command.Command.TheVariants as command
use Rattle.world.specs.declared.entry.Entry.{Entry}
use Rattle.nbrun_top.specs.declared.end.End.{End}
use Rattle.nbrun_top.specs.Asked.{IsExercise}
use Rattle.nbrun_top.specs.Codes.{code_of}
use Rattle.nbrun_top.specs.Ended.{Answers, Ended, plain}
use Rattle.nbrun_top.specs.Exercised.{Exercised}
use Rattle.nbrun_top.specs.Exercised as exercised
use Rattle.nbrun_top.specs.Ran.{Ran}
use Rattle.nbrun_top.specs.Ran as ran
use Rattle.nbrun_top.specs.Said.{said_of}
use Rattle.nbrun_top.proofs.Asked.{no_job_exercises}

-- words ask for one number of cells
one_number : {n m : ℕ} → command.Exercise n ≡ command.Exercise m → n ≡ m
one_number e = cc

pub same_cells : (words : List (List ℕ)) (n m : ℕ) → IsExercise words n → IsExercise words m → n ≡ m
same_cells words n m is also = one_number (sym is.asks ∙ also.asks)

-- words that ask for the exercise, where memory was refused as they were read
of_ran : (words : List (List ℕ)) (ends : Answer → Type 0) (rose cut : Type 0) (code : ℕ) (e : End) (before on_disk after : List Entry) (n : ℕ) → IsExercise words n
    → Ran words before e on_disk → Answers rose (code_of e) code → Says (said_of words e) cut on_disk after → Exercised ends rose cut before code after
of_ran words ends rose cut code e before on_disk after n is (ran.refused u why) answers says = let t = is.taken in absurd (cc)
of_ran words ends rose cut code e before on_disk after n is (ran.job a e_ after_ why prepares) answers says = absurd (no_job_exercises words a n why is)
of_ran words ends rose cut code e before on_disk after n is ran.no_memory (plain heard) says = exercised.starved after says

pub of_no_memory : (words : List (List ℕ)) (ends : Answer → Type 0) (rose cut : Type 0) (code : ℕ) (before after : List Entry) (n : ℕ) → IsExercise words n
    → Ended words code rose cut before after → Exercised ends rose cut before code after
of_no_memory words ends rose cut code before after n is ended =
    of_ran words ends rose cut code ended.end before ended.on_disk after n is ended.ran ended.answers ended.says
