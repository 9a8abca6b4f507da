-- The grammar of command lines: which words are one, whatever is said of the others.
use Rattle.std.specs.Prelude.{◌≡◌, ℕ, Bool, true, List, ◌&&◌, ◌==◌, not, is_some, count_by}
use Rattle.std.specs.List.{list_all}
use Rattle.words.specs.declared.choice.Choice.TheVariants as choice
use Rattle.words.specs.declared.takes.Takes.{Takes}
use Rattle.words.specs.declared.takes.Takes.TheVariants.{Nothing, Text, Seconds, Count, NameAndText}
use Rattle.words.specs.declared.form.Form.{Form}
use Rattle.words.specs.declared.form.Form.TheVariants.{One, Batch, Exercise}
use Rattle.words.specs.declared.part.Part.{Part}
use Rattle.words.specs.Apart.{are_distinct}
use Rattle.words.specs.Numbers.{seconds, count}
use Rattle.words.specs.Parts.{word, parts_of, has_values, is_path, is_unknown, is_choice, is_of_batch_kind, repeats, takes_of}
use Rattle.words.specs.Paths.{path_text, are_apart}
use Rattle.words.specs.Forms.{form_of}
use Rattle.jtext.specs.Names.{is_name}

-- the first value of an option is of its kind
abbrev pub fits : Takes → List ℕ → Bool
fits Nothing value = true
fits Text value = true
fits Seconds value = is_some (seconds value)
fits Count value = is_some (count value)
fits NameAndText value = is_name value

-- a path, `--`, or an option that is there, with its values
abbrev pub is_well_formed : List (List ℕ) → Part → Bool
is_well_formed words p = not (is_unknown p.kind) && (has_values words p && fits (takes_of p.kind) (word p.first words))

-- the number of paths
abbrev pub paths_in : List Part → ℕ
paths_in parts = count_by (λ p. is_path p.kind) parts

-- one job has two paths, of which the first is no file that a run writes; a batch takes the options of every job; the exercise takes nothing else
abbrev pub fits_form : Form → List (List ℕ) → List Part → Bool
fits_form One words parts = (paths_in parts == 2) && are_apart (path_text 0 words parts) (path_text 1 words parts)
fits_form Batch words parts = list_all (λ p. is_of_batch_kind p.kind) parts
fits_form Exercise words parts = list_all (λ p. is_choice choice.Exercise p.kind) parts

-- the words are a command line
pub record IsCommand (words : List (List ℕ)) : Type 0 where
  pub well_formed : list_all (is_well_formed words) (parts_of words) ≡ true
  pub once : are_distinct repeats (parts_of words) ≡ true
  pub form : fits_form (form_of (parts_of words)) words (parts_of words) ≡ true
