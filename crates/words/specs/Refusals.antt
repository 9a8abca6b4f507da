-- Why a command line is refused: the first word with a fault, from the left; then what goes beyond the form,
-- what is missing, and equal paths.
use Rattle.std.specs.Prelude.{ℕ, List, [], ◌∷◌, ◌++◌, Option, Some, None, if◌then◌else◌, not, is_none, nat_lt}
use Rattle.std.specs.List.{list_any}
use Rattle.std.specs.Option.{option_or}
use Rattle.words.specs.declared.usage.Usage.{Usage}
use Rattle.words.specs.declared.usage.Usage.TheVariants as usage
use Rattle.words.specs.declared.takes.Takes.{Takes}
use Rattle.words.specs.declared.takes.Takes.TheVariants.{Nothing, Text, Seconds, Count, NameAndText}
use Rattle.words.specs.declared.form.Form.{Form}
use Rattle.words.specs.declared.form.Form.TheVariants as form
use Rattle.words.specs.declared.part.Part.{Part}
use Rattle.words.specs.Numbers.{seconds, count}
use Rattle.words.specs.Parts.{word, parts_of, has_values, is_unknown, repeats, takes_of}
use Rattle.words.specs.Paths.{path, path_text, are_apart}
use Rattle.words.specs.Forms.{form_of, extra}
use Rattle.jtext.specs.Names.{is_name}

-- the index of a word as a refusal gives it: beyond 32 bits, the last one that they hold
abbrev pub word_index : ℕ → ℕ
word_index i = if nat_lt i 4294967295 then i else 4294967295

-- the fault of the first value, which is the word with this index
abbrev pub value_fault : Takes → List ℕ → ℕ → Option Usage
value_fault Nothing value i = None
value_fault Text value i = None
value_fault Seconds value i = if is_none (seconds value) then Some (usage.BadNumber (word_index i)) else None
value_fault Count value i = if is_none (count value) then Some (usage.BadNumber (word_index i)) else None
value_fault NameAndText value i = if is_name value then None else Some (usage.BadName (word_index i))

-- the fault of a part that comes after these
abbrev pub fault_of : List (List ℕ) → List Part → Part → Option Usage
fault_of words before p =
    if is_unknown p.kind then Some (usage.Unknown (word_index p.at)) else
    if list_any (repeats p) before then Some (usage.Twice (word_index p.at)) else
    if not (has_values words p) then Some (usage.NoValue (word_index p.at)) else
    value_fault (takes_of p.kind) (word p.first words) p.first

-- the first fault of these parts, which come after those
abbrev pub first_fault : List (List ℕ) → List Part → List Part → Option Usage
first_fault words before [] = None
first_fault words before (p ∷ ps) = option_or (fault_of words before p) (first_fault words (before ++ p ∷ []) ps)

-- the second path is there, and the first is no file that is written
abbrev pub second_path_fault : List (List ℕ) → List Part → Option ℕ → Option Usage
second_path_fault words parts None = Some usage.Missing
second_path_fault words parts (Some i) = if are_apart (path_text 0 words parts) (word i words) then None else Some (usage.SamePath (word_index i))

-- two paths are there, and the input is no file that is written
abbrev pub paths_fault : List (List ℕ) → List Part → Option Usage
paths_fault words parts = second_path_fault words parts (path 1 parts)

-- what the form asks for and the parts lack
abbrev pub missing : Form → List (List ℕ) → List Part → Option Usage
missing form.One words parts = paths_fault words parts
missing form.Batch words parts = None
missing form.Exercise words parts = None

-- the word goes beyond the form
abbrev pub beyond : Option ℕ → Option Usage
beyond None = None
beyond (Some i) = Some (usage.Extra (word_index i))

-- the fault of the whole, where no word has one
abbrev pub form_fault : List (List ℕ) → List Part → Option Usage
form_fault words parts = option_or (beyond (extra (form_of parts) parts)) (missing (form_of parts) words parts)

-- why the parts of the words are refused, if they are
abbrev pub refusal_of : List (List ℕ) → List Part → Option Usage
refusal_of words parts = option_or (first_fault words [] parts) (form_fault words parts)

-- why the words are refused, if they are
abbrev pub refusal : List (List ℕ) → Option Usage
refusal words = refusal_of words (parts_of words)
