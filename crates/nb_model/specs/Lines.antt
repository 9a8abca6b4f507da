-- New text as nbformat stores it: a list of lines, cut after each line end, the last one perhaps without.
use Rattle.std.specs.Prelude.{ℕ, List, [], ◌∷◌, map, ◌==◌, if◌then◌else◌}
use Rattle.jtext.specs.declared.json.Json.{Json}
use Rattle.jtext.specs.declared.json.Json.TheVariants as json

-- a character before the first of these lines
abbrev pub before_first_line : ℕ → List (List ℕ) → List (List ℕ)
before_first_line c [] = (c ∷ []) ∷ []
before_first_line c (l ∷ ls) = (c ∷ l) ∷ ls

-- the lines of a text, each with its U+000A; none of the empty text
abbrev pub lines_of : List ℕ → List (List ℕ)
lines_of [] = []
lines_of (c ∷ cs) = if c == 10 then (c ∷ []) ∷ lines_of cs else before_first_line c (lines_of cs)

-- the list of these lines
abbrev pub lines_tree : List ℕ → Json
lines_tree text = json.Arr (map (λ l. json.Str l) (lines_of text))
