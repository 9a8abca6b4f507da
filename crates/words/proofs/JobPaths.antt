-- The paths of a job that a command line asks for.
use Rattle.std.proofs.Common.{◌≡◌, ℕ, ◌==◌, Bool, true, List, None, subst}
use Rattle.std.proofs.lemmas.Bool.{and_parts}
use Rattle.words.specs.declared.ask.Ask.{Ask}
use Rattle.words.specs.declared.command.Command.{Command}
use Rattle.words.specs.declared.command.Command.TheVariants as command
use Rattle.words.specs.declared.form.Form.{Form}
use Rattle.words.specs.declared.form.Form.TheVariants.{One, Batch, Exercise}
use Rattle.words.specs.declared.part.Part.{Part}
use Rattle.words.specs.Asked.{command_of_words, command_in}
use Rattle.words.specs.Forms.{form_of}
use Rattle.words.specs.Grammar.{fits_form, paths_in}
use Rattle.words.specs.Parts.{parts_of}
use Rattle.words.specs.Paths.{path_text, are_apart}
use Rattle.words.specs.Refusals.{refusal}
use Rattle.words.proofs.GrammarLaws.{only_commands}

-- the paths that a command names for one job are apart
abbrev paths_apart : Command → Bool
paths_apart (command.One a) = are_apart a.input a.output
paths_apart (command.Many file a) = true
paths_apart (command.Exercise n) = true

form_apart : (f : Form) (words : List (List ℕ)) (parts : List Part) (a : Ask) → fits_form f words parts ≡ true → command_in f words parts ≡ command.One a → are_apart a.input a.output ≡ true
form_apart One words parts a fits is =
    subst (λ c. paths_apart c ≡ true) is (and_parts (paths_in parts == 2) (are_apart (path_text 0 words parts) (path_text 1 words parts)) fits).1
form_apart Batch words parts a fits is = cc
form_apart Exercise words parts a fits is = cc

pub job_apart : (words : List (List ℕ)) (a : Ask) → refusal words ≡ None → command_of_words words ≡ command.One a → are_apart a.input a.output ≡ true
job_apart words a taken is = form_apart (form_of (parts_of words)) words (parts_of words) a (only_commands words taken).form is
