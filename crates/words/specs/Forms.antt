-- The three forms of a command: one job, a batch, the exercise.
use Rattle.std.specs.Prelude.{ℕ, Bool, List, Option, if◌then◌else◌, not, find, option_map}
use Rattle.std.specs.List.{list_any}
use Rattle.words.specs.declared.choice.Choice.{Choice}
use Rattle.words.specs.declared.choice.Choice.TheVariants as choice
use Rattle.words.specs.declared.form.Form.{Form}
use Rattle.words.specs.declared.form.Form.TheVariants.{One, Batch, Exercise}
use Rattle.words.specs.declared.part.Part.{Part}
use Rattle.words.specs.Parts.{is_choice, is_of_batch_kind}
use Rattle.words.specs.Paths.{path}

-- the option is among the parts
abbrev pub has : Choice → List Part → Bool
has c parts = list_any (λ p. is_choice c p.kind) parts

-- the form that the options choose
abbrev pub form_of : List Part → Form
form_of parts = if has choice.Exercise parts then Exercise else if has choice.Jobs parts then Batch else One

-- the first word that a batch doesn't take
abbrev pub not_of_batch : List Part → Option ℕ
not_of_batch parts = option_map (λ p. p.at) (find (λ p. not (is_of_batch_kind p.kind)) parts)

-- the first word that is not the exercise's option
abbrev pub not_exercise : List Part → Option ℕ
not_exercise parts = option_map (λ p. p.at) (find (λ p. not (is_choice choice.Exercise p.kind)) parts)

-- the first word that the form doesn't take; one job takes two paths
abbrev pub extra : Form → List Part → Option ℕ
extra One parts = path 2 parts
extra Batch parts = not_of_batch parts
extra Exercise parts = not_exercise parts
