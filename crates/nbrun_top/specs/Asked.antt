-- What the words ask for: a report, a graph, jobs that execute their notebooks, the exercise, or what executes nothing.
use Rattle.std.specs.declared.string.String.{String}
use Rattle.std.specs.Prelude.{◌≡◌, ◌⊎◌, ◌≤◌, ℕ, Bool, true, false, not, List, [], ◌∷◌, Option, None, Some, if◌then◌else◌, codes, map, string_bytes}
use Rattle.std.specs.Str.{bytes_eq}
use Rattle.words.specs.declared.ask.Ask.{Ask}
use Rattle.words.specs.declared.command.Command.{Command}
use Rattle.words.specs.declared.command.Command.TheVariants as command
use Rattle.words.specs.declared.usage.Usage.TheVariants as usage_fault
use Rattle.words.specs.Asked.{command_of_words}
use Rattle.words.specs.Refusals.{refusal}
use Rattle.words.specs.Runnable.{IsRunnable}
use Rattle.nbrun_top.specs.declared.plain.Plain.{Plain}
use Rattle.nbrun_top.specs.declared.plain.Plain.TheVariants as plain
use Rattle.nbrun_top.specs.declared.task.Task.{Task}
use Rattle.nbrun_top.specs.declared.task.Task.TheVariants as task

-- ---- words whose first one names a command

-- the words after this one, where it is the first
abbrev pub words_after : List ℕ → List (List ℕ) → Option (List (List ℕ))
words_after name [] = None
words_after name (word ∷ words) = if bytes_eq word name then Some words else None

-- the words of a report, after the first
abbrev pub report_words : List (List ℕ) → Option (List (List ℕ))
report_words words = words_after (codes "report") words

-- the words ask for no report
abbrev pub IsNoReport : List (List ℕ) → Type 0
IsNoReport words = report_words words ≡ None

-- the words of a graph, after the first
abbrev pub graph_words : List (List ℕ) → Option (List (List ℕ))
graph_words words = words_after (codes "graph") words

-- the words ask for no graph
abbrev pub IsNoGraph : List (List ℕ) → Type 0
IsNoGraph words = graph_words words ≡ None

-- ---- words that execute nothing

-- the words are a command line that asks for this job, which prepares its notebook and executes nothing
pub record IsJob (words : List (List ℕ)) (a : Ask) : Type 0 where
  pub taken : refusal words ≡ None
  pub asks : command_of_words words ≡ command.One a
  pub prepares : a.prepare ≡ true

-- ---- words that ask for the exercise

-- the words are a command line that asks for the exercise of so many cells
pub record IsExercise (words : List (List ℕ)) (cells : ℕ) : Type 0 where
  pub taken : refusal words ≡ None
  pub asks : command_of_words words ≡ command.Exercise cells

-- the words don't ask for the exercise
abbrev pub IsNoExercise : List (List ℕ) → Type 0
IsNoExercise words = (cells : ℕ) → IsExercise words cells → ⊥

-- ---- words that execute notebooks

-- the words are a command line that asks for this job, which executes its notebook
pub record IsExecuted (words : List (List ℕ)) (a : Ask) : Type 0 where
  pub taken : refusal words ≡ None
  pub asks : command_of_words words ≡ command.One a
  pub executes : a.prepare ≡ false

-- the words are a command line that asks for the jobs of this file, which have that in common
pub record IsBatch (words : List (List ℕ)) (file : List ℕ) (common : Ask) : Type 0 where
  pub taken : refusal words ≡ None
  pub asks : command_of_words words ≡ command.Many file common

-- a command that executes notebooks
abbrev pub is_execution : Command → Bool
is_execution (command.One a) = not a.prepare
is_execution (command.Many file a) = true
is_execution (command.Exercise n) = false

-- the words are a command line that executes notebooks
pub record IsExecuting (words : List (List ℕ)) : Type 0 where
  pub taken : refusal words ≡ None
  pub executes : is_execution (command_of_words words) ≡ true

-- the words execute nothing and ask for no exercise: they are refused, or prepare a notebook
pub record IsPlain (words : List (List ℕ)) : Type 0 where
  pub executes : IsExecuting words → ⊥
  pub exercises : IsNoExercise words

-- ---- as they are read

-- the words execute nothing and ask for that; memory may have been refused, whatever they are
abbrev pub IsPlainOf : List (List ℕ) → Plain → Type 0
IsPlainOf words (plain.Prepare a) = IsJob words a
IsPlainOf words (plain.Refused u) = (u ≡ usage_fault.NoMemory) ⊎ (refusal words ≡ Some u)

-- the words ask for that
abbrev pub IsTaskOf : List (List ℕ) → Task → Type 0
IsTaskOf words (task.Plain p) = IsPlainOf words p
IsTaskOf words (task.One a) = IsExecuted words a
IsTaskOf words (task.Many file a) = IsBatch words file a
IsTaskOf words (task.Exercise cells) = IsExercise words cells

-- the jobs that execute can be run, and so can the exercise
abbrev pub IsRunnableTask : Task → Type 0
IsRunnableTask (task.Plain p) = Unit {0}
IsRunnableTask (task.One a) = IsRunnable a
IsRunnableTask (task.Many file a) = IsRunnable a
IsRunnableTask (task.Exercise cells) = cells ≤ 200

-- the texts of the words
abbrev pub texts : {Z : Type 0} → List (String Z) → List (List ℕ)
texts words = map string_bytes words
