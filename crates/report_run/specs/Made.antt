-- What a report makes of the bytes of its input, or why it makes nothing of them.
use Rattle.std.specs.Prelude.{◌≡◌, ℕ, List}
use Rattle.nb_model.specs.declared.notebook.Notebook.{Notebook}
use Rattle.nb_text.specs.Notebooks.{text_of}
use Rattle.nb_load.specs.declared.load_fault.LoadFault.{LoadFault}
use Rattle.nb_load.specs.declared.load_fault.LoadFault.TheVariants as load_fault
use Rattle.nb_load.specs.Loaded.{IsNotebook, IsNoJson, IsNoNotebook}
use Rattle.report_text.specs.Script.{script}
use Rattle.report_text.specs.Page.{page}
use Rattle.report_text.specs.Reading.{IsReadOf, IsNoScript}
use Rattle.report_run.specs.declared.form.Form.{Form}
use Rattle.report_run.specs.declared.form.Form.TheVariants as form
use Rattle.report_run.specs.declared.end.End.{End}
use Rattle.report_run.specs.declared.end.End.TheVariants as end

-- The text that a report of this form makes of these bytes: the script or the page of the notebook of nbformat 4.0
-- to 4.5 that they give, or the text of the notebook that is read of the script which they are.
abbrev pub Gives : Form → List ℕ → List ℕ → Type 0
Gives form.Script bytes text = (n : Notebook) × IsNotebook bytes n × (text ≡ script n)
Gives form.Page bytes text = (n : Notebook) × IsNotebook bytes n × (text ≡ page n)
Gives form.Notebook bytes text = (n : Notebook) × IsReadOf bytes n × (text ≡ text_of n)

-- The bytes give no notebook, for this fault: they spell no tree nested at most 128 deep, or their tree is no notebook
-- of nbformat 4.0 to 4.5.
abbrev pub GivesNone : List ℕ → LoadFault → Type 0
GivesNone bytes (load_fault.NotJson f) = IsNoJson bytes f
GivesNone bytes (load_fault.NotNotebook f) = IsNoNotebook bytes f
GivesNone bytes (load_fault.NoTranslator language) = ⊥
GivesNone bytes load_fault.NoMemory = ⊥

-- the same, but for want of memory
abbrev pub Refuses : List ℕ → LoadFault → Type 0
Refuses bytes (load_fault.NotJson f) = IsNoJson bytes f
Refuses bytes (load_fault.NotNotebook f) = IsNoNotebook bytes f
Refuses bytes (load_fault.NoTranslator language) = ⊥
Refuses bytes load_fault.NoMemory = Unit {0}

-- how a report ends whose input gives no notebook
abbrev pub end_of : LoadFault → End
end_of load_fault.NoMemory = end.NoMemory
end_of f = end.NotLoaded f

-- Why a report of this form makes nothing of these bytes: they give no notebook, or they are no script, from the row
-- with this number on. The report ends so.
pub data CannotMake (kind : Form) (bytes : List ℕ) : End → Type 0 where
  no_notebook : (f : LoadFault) → (kind ≡ form.Notebook → ⊥) → GivesNone bytes f
      → CannotMake kind bytes (end.NotLoaded f)
  no_script : (number : ℕ) → kind ≡ form.Notebook → IsNoScript bytes number
      → CannotMake kind bytes (end.NotScript number)
