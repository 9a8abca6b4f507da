-- Variables: names with their values (the toy language).
use Rattle.std.specs.Prelude.{ℕ, List, [], ◌∷◌, Option, Some, None, if◌then◌else◌}
use Rattle.std.specs.Str.{bytes_eq}

-- names with their values, none of them twice
abbrev pub Variables : Type 0
Variables = List (List ℕ × List ℕ)

-- the value of the variable with that name
abbrev pub value_of : List ℕ → Variables → Option (List ℕ)
value_of name [] = None
value_of name (v ∷ vs) = if bytes_eq v.0 name then Some v.1 else value_of name vs

-- the variables with this one set, in the place of the one with that name or last
abbrev pub with_variable : List ℕ → List ℕ → Variables → Variables
with_variable name value [] = (name, value) ∷ []
with_variable name value (v ∷ vs) =
    if bytes_eq v.0 name then (name, value) ∷ vs else v ∷ with_variable name value vs
