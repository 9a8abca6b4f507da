-- The words of a graph after the first one. They are read as those of a batch: `graph` stands in the place of `--jobs`.
use Rattle.std.specs.declared.string.String.{String}
use Rattle.std.specs.Prelude.{◌≡◌, ℕ, List, ◌∷◌, None, codes, map, string_bytes}
use Rattle.words.specs.declared.ask.Ask.{Ask}
use Rattle.words.specs.declared.command.Command.TheVariants as command
use Rattle.words.specs.Asked.{command_of_words}
use Rattle.words.specs.Refusals.{refusal}

-- the words of the batch
abbrev pub batch_words : List (List ℕ) → List (List ℕ)
batch_words words = codes "--jobs" ∷ words

-- the words ask for the graph of this file, and have that in common
pub record IsAsked (words : List (List ℕ)) (file : List ℕ) (common : Ask) : Type 0 where
  pub taken : refusal (batch_words words) ≡ None
  pub asks : command_of_words (batch_words words) ≡ command.Many file common

-- the texts of the words
abbrev pub texts : {Z : Type 0} → List (String Z) → List (List ℕ)
texts words = map string_bytes words
