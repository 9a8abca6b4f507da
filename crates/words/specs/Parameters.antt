-- The parameters of a command line: names with values, a later value of a name in the place of the earlier one.
use Rattle.std.specs.Prelude.{ℕ, List, [], ◌∷◌, if◌then◌else◌}
use Rattle.jtext.specs.Edit.{set_pair}
use Rattle.jtext.specs.declared.json.Json.{Json}
use Rattle.jtext.specs.declared.json.Json.TheVariants as json
use Rattle.words.specs.declared.choice.Choice.TheVariants as choice
use Rattle.words.specs.declared.part.Part.{Part}
use Rattle.words.specs.Parts.{word, is_choice}
use Rattle.words.specs.Values.{value_of}

-- the fields with what a part gives; a raw value is a string whatever it spells
abbrev pub with_parameter : List (List ℕ) → Part → List (List ℕ × Json) → List (List ℕ × Json)
with_parameter words p fields =
    if is_choice choice.Parameter p.kind then set_pair (word p.first words) (value_of (word p.second words)) fields else
    if is_choice choice.RawParameter p.kind then set_pair (word p.first words) (json.Str (word p.second words)) fields else fields

-- the fields with what the parts give, one after the other
abbrev pub parameters_from : List (List ℕ) → List (List ℕ × Json) → List Part → List (List ℕ × Json)
parameters_from words fields [] = fields
parameters_from words fields (p ∷ ps) = parameters_from words (with_parameter words p fields) ps
