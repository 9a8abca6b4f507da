-- The kinds of cells (nbformat 4.5, `cell_type`).
use Rattle.std.specs.Prelude.{Bool, true, false}
use Rattle.nb_model.specs.declared.kind.Kind.{Kind}
use Rattle.nb_model.specs.declared.kind.Kind.TheVariants as kind

-- a kernel executes it
abbrev pub is_code : Kind → Bool
is_code kind.Raw = false
is_code kind.Markdown = false
is_code kind.Code = true
