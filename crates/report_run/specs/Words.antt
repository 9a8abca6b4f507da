-- The words of a report after the first one, which is `report` itself and has the index 0: a form, the path of the
-- input, the path of the output.
use Rattle.std.specs.Prelude.{◌≡◌, ℕ, ◌==◌, ◌||◌, Bool, false, List, [], ◌∷◌, Option, Some, None, if◌then◌else◌, is_some, codes, map, string_bytes}
use Rattle.std.specs.Option.{option_or}
use Rattle.std.specs.Str.{bytes_eq}
use Rattle.std.specs.declared.string.String.{String}
use Rattle.words.specs.declared.usage.Usage.{Usage}
use Rattle.words.specs.declared.usage.Usage.TheVariants as usage
use Rattle.world.specs.Save.{temporary_of}
use Rattle.report_run.specs.declared.form.Form.{Form}
use Rattle.report_run.specs.declared.form.Form.TheVariants as form
use Rattle.report_run.specs.declared.request.Request.{Request}

-- the form that a word names
abbrev pub form_of : List ℕ → Option Form
form_of word =
    if bytes_eq word (codes "script") then Some form.Script
    else if bytes_eq word (codes "page") then Some form.Page
    else if bytes_eq word (codes "notebook") then Some form.Notebook
    else None

-- the fault of the word that has to name a form
abbrev pub form_fault : List ℕ → Option Usage
form_fault word = if is_some (form_of word) then None else Some (usage.Unknown 1)

-- the word begins with a hyphen
abbrev pub has_hyphen : List ℕ → Bool
has_hyphen [] = false
has_hyphen (c ∷ cs) = c == 45

-- the fault of the word with this index, which has to be a path
abbrev pub path_fault : ℕ → List ℕ → Option Usage
path_fault i word = if has_hyphen word then Some (usage.Unknown i) else None

-- the first fault of the form and the paths, from the left
abbrev pub first_fault : List (List ℕ) → Option Usage
first_fault [] = None
first_fault (f ∷ []) = form_fault f
first_fault (f ∷ i ∷ []) = option_or (form_fault f) (path_fault 2 i)
first_fault (f ∷ i ∷ o ∷ more) = option_or (form_fault f) (option_or (path_fault 2 i) (path_fault 3 o))

-- the input is the output, or the file that a save of the output writes first
abbrev pub is_written : List ℕ → List ℕ → Bool
is_written input output = bytes_eq input output || bytes_eq input (temporary_of output)

-- a word too many, one too few, or an input that the report would write over
abbrev pub whole_fault : List (List ℕ) → Option Usage
whole_fault [] = Some usage.Missing
whole_fault (f ∷ []) = Some usage.Missing
whole_fault (f ∷ i ∷ []) = Some usage.Missing
whole_fault (f ∷ i ∷ o ∷ []) = if is_written i o then Some (usage.SamePath 3) else None
whole_fault (f ∷ i ∷ o ∷ more ∷ others) = Some (usage.Extra 4)

-- why the words are refused, if they are
abbrev pub refusal : List (List ℕ) → Option Usage
refusal words = option_or (first_fault words) (whole_fault words)

-- the words aren't refused, and ask for this
pub record IsRequest (words : List (List ℕ)) (r : Request) : Type 0 where
  pub taken : refusal words ≡ None
  pub word : List ℕ
  pub are : words ≡ word ∷ r.input ∷ r.output ∷ []
  pub form : form_of word ≡ Some r.form

-- the texts of the words
abbrev pub texts : {Z : Type 0} → List (String Z) → List (List ℕ)
texts words = map string_bytes words
