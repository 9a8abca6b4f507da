-- The lines of an object in indented JSON text.
use Rattle.std.specs.Prelude.{ℕ, List, [], ◌∷◌, ◌++◌}
use Rattle.jtext.specs.declared.json.Json.{Json}
use Rattle.jtext.specs.Indent.{on_line, member, indent}
use Rattle.jtext.specs.Print.{quote}

-- what the line of a key begins with
abbrev pub line_start : List ℕ → List ℕ → List ℕ
line_start margin key = 10 ∷ (margin ++ (quote key ++ 58 ∷ 32 ∷ []))

-- the line of a key whose value is written so
abbrev pub named_line : List ℕ → List ℕ → List ℕ → List ℕ
named_line margin key value = on_line margin (member (key, value))

-- the line of a pair
abbrev pub line : List ℕ → List ℕ × Json → List ℕ
line margin p = named_line margin p.0 (indent p.1 margin)
