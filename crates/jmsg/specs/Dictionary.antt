-- Dictionaries of messages: JSON objects (RFC 8259, section 4), nested at most 100 deep.
use Rattle.std.specs.Prelude.{ℕ, ◌≤◌, IsTrue, List}
use Rattle.jtext.specs.Grammar.{Spells}
use Rattle.jtext.specs.Depth.{depth}
use Rattle.jtext.specs.Look.{is_object}
use Rattle.jtext.specs.declared.json.Json.{Json}

-- the bytes spell the tree, an object nested at most 100 deep
pub record IsDictionary (t : Json) (b : List ℕ) : Type 0 where
  pub spelled : Spells t b
  pub object : IsTrue (is_object t)
  pub nests : depth t ≤ 100
