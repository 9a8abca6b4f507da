-- What is said at the end of a run.
use Rattle.std.specs.Prelude.{◌≡◌, ◌⊎◌, ℕ, List, [], codes}
use Rattle.words.specs.declared.command.Command.{Command}
use Rattle.words.specs.declared.command.Command.TheVariants as command
use Rattle.words.specs.Asked.{command_of_words}
use Rattle.nbrun_top.specs.declared.answer.Answer.{Answer}
use Rattle.nbrun_top.specs.declared.end.End.{End}
use Rattle.nbrun_top.specs.declared.end.End.TheVariants as end
use Rattle.nbrun_top.specs.Lines.{all_lines}

-- the path that the job of a command reads
abbrev pub input_of : Command → List ℕ
input_of (command.One a) = a.input
input_of (command.Many file a) = []
input_of (command.Exercise n) = []

-- the path that it writes
abbrev pub output_of : Command → List ℕ
output_of (command.One a) = a.output
output_of (command.Many file a) = []
output_of (command.Exercise n) = []

-- what is said at the end of a run
abbrev pub said_of : List (List ℕ) → End → List ℕ
said_of words e = all_lines (input_of (command_of_words words)) (output_of (command_of_words words)) e

-- the answer has what is to be said of its end on these paths
abbrev pub Speaks : List ℕ → List ℕ → Answer → Type 0
Speaks input output a = (a.end ≡ end.NoMemory) ⊎ (a.text ≡ all_lines input output a.end)

-- the answer has what is to be said of its end, on the paths that the words name
abbrev pub SpeaksOf : List (List ℕ) → Answer → Type 0
SpeaksOf words a = (a.end ≡ end.NoMemory) ⊎ (a.text ≡ said_of words a.end)

-- the answer has what is to be said of its end, on the jobs file
abbrev pub SpeaksOfFile : List ℕ → Answer → Type 0
SpeaksOfFile file a = Speaks file (codes "nbrun") a
