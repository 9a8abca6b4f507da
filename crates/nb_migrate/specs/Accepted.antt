-- Which trees are notebooks of nbformat 4.0 to 4.5: those that are one of 4.5, once raised to it.
use Rattle.std.specs.Prelude.{◌≡◌, true}
use Rattle.jtext.specs.declared.json.Json.{Json}
use Rattle.nb_model.specs.declared.notebook.Notebook.{Notebook}
use Rattle.nb_model.specs.Faults as faults
use Rattle.nb_model.specs.declared.nb_fault.NbFault.{NbFault}
use Rattle.nb_model.specs.Reading.{notebook_of}
use Rattle.nb_model.specs.Valid.{is_notebook}
use Rattle.nb_migrate.specs.Raised.{raised_tree}

-- the tree is a notebook, whatever its depth
abbrev pub Accepted : Json → Type 0
Accepted t = is_notebook (raised_tree t) ≡ true

-- the notebook that it is
abbrev pub accepted_notebook : Json → Notebook
accepted_notebook t = notebook_of (raised_tree t)

-- why it is none: the fault of the raised tree, but for want of memory
abbrev pub Refuses : Json → NbFault → Type 0
Refuses t f = faults.Refuses (raised_tree t) f
