-- What a command line asks for.
use Rattle.std.specs.Prelude.{ℕ, ◌*◌, List, [], ◌∷◌, Option, if◌then◌else◌, not, codes, find, unwrap_or, option_map, option_and_then}
use Rattle.words.specs.declared.ask.Ask.{Ask}
use Rattle.words.specs.declared.command.Command.{Command}
use Rattle.words.specs.declared.command.Command.TheVariants as command
use Rattle.words.specs.declared.choice.Choice.{Choice}
use Rattle.words.specs.declared.choice.Choice.TheVariants as choice
use Rattle.words.specs.declared.form.Form.{Form}
use Rattle.words.specs.declared.form.Form.TheVariants as form
use Rattle.words.specs.declared.part.Part.{Part}
use Rattle.words.specs.Numbers.{seconds, count}
use Rattle.words.specs.Parts.{word, parts_of, is_choice}
use Rattle.words.specs.Paths.{path_text}
use Rattle.words.specs.Forms.{form_of, has}
use Rattle.words.specs.Parameters.{parameters_from}

-- the value of the option, if it is given
abbrev pub option_value : Choice → List (List ℕ) → List Part → Option (List ℕ)
option_value c words parts = option_map (λ p. word p.first words) (find (λ p. is_choice c p.kind) parts)

-- the name of the kernel, if it is given
abbrev pub kernel : List (List ℕ) → List Part → Option (List ℕ)
kernel words parts = option_value choice.Kernel words parts

-- the folder of the kernels' specs
abbrev pub kernel_path : List (List ℕ) → List Part → List ℕ
kernel_path words parts = unwrap_or (option_value choice.KernelPath words parts) (codes "/usr/local/share/jupyter/kernels")

-- the folder that the kernel runs in
abbrev pub cwd : List (List ℕ) → List Part → List ℕ
cwd words parts = unwrap_or (option_value choice.Cwd words parts) (codes ".")

-- the jobs file
abbrev pub jobs_file : List (List ℕ) → List Part → List ℕ
jobs_file words parts = unwrap_or (option_value choice.Jobs words parts) []

-- the time that the option sets
abbrev pub milliseconds : Choice → List (List ℕ) → List Part → Option ℕ
milliseconds c words parts = option_map (λ n. n * 1000) (option_and_then seconds (option_value c words parts))

-- how long the kernel may take to be ready: a minute, if nothing else is said
abbrev pub start_ms : List (List ℕ) → List Part → ℕ
start_ms words parts = unwrap_or (milliseconds choice.StartTimeout words parts) 60000

-- the number of cells of the exercise
abbrev pub cells : List (List ℕ) → List Part → ℕ
cells words parts = unwrap_or (option_and_then count (option_value choice.Exercise words parts)) 0

-- the names of the errors that are allowed, in their order
abbrev pub error_names : List (List ℕ) → List Part → List (List ℕ)
error_names words [] = []
error_names words (p ∷ ps) = if is_choice choice.AllowErrorName p.kind then word p.first words ∷ error_names words ps else error_names words ps

-- what is asked of a job with these paths
abbrev pub ask_of : List ℕ → List ℕ → List (List ℕ) → List Part → Ask
ask_of input output words parts = record {
  input = input;
  output = output;
  kernel = kernel words parts;
  kernel_path = kernel_path words parts;
  cwd = cwd words parts;
  params = parameters_from words [] parts;
  prepare = has choice.PrepareOnly parts;
  report = has choice.ReportMode parts;
  merge = has choice.MergeStreams parts;
  all_errors = has choice.AllowErrors parts;
  interrupt = has choice.Interrupt parts;
  heartbeat = not (has choice.NoHeartbeat parts);
  names = error_names words parts;
  start_ms = start_ms words parts;
  limit_ms = milliseconds choice.ExecutionTimeout words parts;
}

-- what the parts ask for in this form
abbrev pub command_in : Form → List (List ℕ) → List Part → Command
command_in form.One words parts = command.One (ask_of (path_text 0 words parts) (path_text 1 words parts) words parts)
command_in form.Batch words parts = command.Many (jobs_file words parts) (ask_of [] [] words parts)
command_in form.Exercise words parts = command.Exercise (cells words parts)

-- what the parts ask for
abbrev pub command_of : List (List ℕ) → List Part → Command
command_of words parts = command_in (form_of parts) words parts

-- what the words ask for, where they are not refused
abbrev pub command_of_words : List (List ℕ) → Command
command_of_words words = command_of words (parts_of words)
