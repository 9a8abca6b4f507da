-- The rows of a text: its parts between line ends (U+000A).
use Rattle.std.specs.Prelude.{ℕ, List, [], ◌∷◌, ◌++◌, ◌==◌, if◌then◌else◌, flat_map}

-- an octet before the first of these rows
abbrev pub before_first_row : ℕ → List (List ℕ) → List (List ℕ)
before_first_row c [] = (c ∷ []) ∷ []
before_first_row c (r ∷ rs) = (c ∷ r) ∷ rs

-- the parts of a text between its line ends, without the last part where that is empty
abbrev pub rows : List ℕ → List (List ℕ)
rows [] = []
rows (c ∷ cs) = if c == 10 then [] ∷ rows cs else before_first_row c (rows cs)

-- a row with its line end
abbrev pub ended : List ℕ → List ℕ
ended row = row ++ 10 ∷ []

-- the text of these rows, each with its line end
abbrev pub text_of_rows : List (List ℕ) → List ℕ
text_of_rows rs = flat_map ended rs
