-- The options of the command line, as a table: their spellings, their values, and which may be repeated.
use Rattle.std.specs.Prelude.{ℕ, Bool, true, false, List, [], ◌∷◌, Option, Some, None, if◌then◌else◌, codes}
use Rattle.std.specs.Str.{bytes_eq}
use Rattle.words.specs.declared.choice.Choice.{Choice}
use Rattle.words.specs.declared.choice.Choice.TheVariants.{Parameter, RawParameter, Kernel, KernelPath, Cwd, StartTimeout, ExecutionTimeout, PrepareOnly, ReportMode, MergeStreams, AllowErrors, Interrupt, NoHeartbeat, AllowErrorName, Jobs, Exercise}
use Rattle.words.specs.contracts.choice.ChoicePartialEq.TheImpl as equality
use Rattle.words.specs.declared.takes.Takes.{Takes}
use Rattle.words.specs.declared.takes.Takes.TheVariants as values

-- each spelling, with its option
abbrev pub spellings : List (List ℕ × Choice)
spellings =
    (codes "-p", Parameter) ∷ (codes "--parameters", Parameter) ∷ (codes "-r", RawParameter) ∷ (codes "--parameters_raw", RawParameter)
    ∷ (codes "-k", Kernel) ∷ (codes "--kernel", Kernel) ∷ (codes "--kernel-path", KernelPath) ∷ (codes "--cwd", Cwd)
    ∷ (codes "--start-timeout", StartTimeout) ∷ (codes "--execution-timeout", ExecutionTimeout)
    ∷ (codes "--prepare-only", PrepareOnly) ∷ (codes "--report-mode", ReportMode) ∷ (codes "--merge-streams", MergeStreams)
    ∷ (codes "--allow-errors", AllowErrors) ∷ (codes "--interrupt", Interrupt) ∷ (codes "--no-heartbeat", NoHeartbeat)
    ∷ (codes "--allow-error-name", AllowErrorName) ∷ (codes "--jobs", Jobs) ∷ (codes "--exercise", Exercise) ∷ []

-- the option that a table has for the word
abbrev pub choice_in : List ℕ → List (List ℕ × Choice) → Option Choice
choice_in word [] = None
choice_in word (r ∷ rs) = if bytes_eq word r.0 then Some r.1 else choice_in word rs

-- the option that the word spells; it is spelled in full, and takes no `=`
abbrev pub choice_of : List ℕ → Option Choice
choice_of word = choice_in word spellings

-- both are one option: the equality that `Choice` derives
abbrev pub is_same_option : Choice → Choice → Bool
is_same_option = (equality.ghosts).eq

-- the values of the option
abbrev pub takes : Choice → Takes
takes Parameter = values.NameAndText
takes RawParameter = values.NameAndText
takes Kernel = values.Text
takes KernelPath = values.Text
takes Cwd = values.Text
takes StartTimeout = values.Seconds
takes ExecutionTimeout = values.Seconds
takes PrepareOnly = values.Nothing
takes ReportMode = values.Nothing
takes MergeStreams = values.Nothing
takes AllowErrors = values.Nothing
takes Interrupt = values.Nothing
takes NoHeartbeat = values.Nothing
takes AllowErrorName = values.Text
takes Jobs = values.Text
takes Exercise = values.Count

-- how many words the values are
abbrev pub arity : Takes → ℕ
arity values.Nothing = 0
arity values.Text = 1
arity values.Seconds = 1
arity values.Count = 1
arity values.NameAndText = 2

-- the option may stand more than once
abbrev pub may_repeat : Choice → Bool
may_repeat Parameter = true
may_repeat RawParameter = true
may_repeat AllowErrorName = true
may_repeat c = false

-- the option says something of every job, so that a batch takes it
abbrev pub is_of_batch : Choice → Bool
is_of_batch Parameter = false
is_of_batch RawParameter = false
is_of_batch Kernel = false
is_of_batch Cwd = false
is_of_batch PrepareOnly = false
is_of_batch Exercise = false
is_of_batch c = true
