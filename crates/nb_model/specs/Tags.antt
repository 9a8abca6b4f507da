-- The tags of a cell (nbformat 4.5, `metadata.tags` of a cell).
use Rattle.std.specs.Prelude.{ℕ, Bool, List, codes}
use Rattle.std.specs.List.{list_any}
use Rattle.jtext.specs.Look.{items}
use Rattle.nb_model.specs.declared.cell.Cell.{Cell}
use Rattle.nb_model.specs.Keys.{is_text, has}

-- the cell has this tag
abbrev pub is_tagged : List ℕ → Cell → Bool
is_tagged tag c = has (codes "tags") (λ v. list_any (is_text tag) (items v)) c.metadata
