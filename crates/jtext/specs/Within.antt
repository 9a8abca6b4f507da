-- Texts within bounds of size and depth, as a reader may set them (RFC 8259, section 9).
use Rattle.std.specs.Prelude.{ℕ, ◌≤◌, List, length}
use Rattle.jtext.specs.declared.json.Json.{Json}
use Rattle.jtext.specs.Depth.{depth}
use Rattle.jtext.specs.Grammar.{Spells}

-- the bytes are a text of this tree, at most so many of them and nested at most so deep
pub record IsTextWithin (size deep : ℕ) (bytes : List ℕ) (t : Json) : Type 0 where
  pub small : length bytes ≤ size
  pub spells : Spells t bytes
  pub within : depth t ≤ deep

-- within these bounds, the bytes are a text of no tree
abbrev pub IsNoTextWithin : ℕ → ℕ → List ℕ → Type 0
IsNoTextWithin size deep bytes = (t : Json) → IsTextWithin size deep bytes t → ⊥
