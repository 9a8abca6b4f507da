-- The form in which a cell prints a scrap: `scrap NAME = VALUE`.
use Rattle.std.specs.Prelude.{◌≡◌, ℕ, true, List, ◌++◌, codes}
use Rattle.jtext.specs.Names.{is_name}

-- the row is `scrap NAME = VALUE`: NAME is a parameter name, and VALUE is any text, also the empty one
pub record IsScrapRow (row name value : List ℕ) : Type 0 where
  pub is : row ≡ codes "scrap " ++ (name ++ (codes " = " ++ value))
  pub named : is_name name ≡ true
