-- The language of a notebook's cells (nbformat 4.5, `metadata.kernelspec` and `metadata.language_info`).
use Rattle.std.specs.Prelude.{ℕ, List, unwrap_or, codes}
use Rattle.nb_model.specs.declared.notebook.Notebook.{Notebook}
use Rattle.nb_params.specs.Injected.{string_within}

-- the language that the kernel told, else Python
abbrev pub told_language : Notebook → List ℕ
told_language n = unwrap_or (string_within (codes "language_info") (codes "name") n.metadata) (codes "python")
