-- What is made of the bytes of the input: the notebook that they give, with its parameters, or why there is none.
use Rattle.std.specs.Prelude.{◌≡◌, ◌≤◌, ℕ, true, false, List, Some}
use Rattle.jtext.specs.declared.json.Json.{Json}
use Rattle.jtext.specs.declared.fault.JsonFault.{JsonFault}
use Rattle.jtext.specs.Grammar.{Spells}
use Rattle.jtext.specs.Depth.{depth}
use Rattle.jtext.specs.Refusal as json
use Rattle.nb_model.specs.declared.notebook.Notebook.{Notebook}
use Rattle.nb_model.specs.declared.nb_fault.NbFault.{NbFault}
use Rattle.nb_model.specs.Faults.{fault_of}
use Rattle.nb_params.specs.Injected.{injected_notebook, language}
use Rattle.nb_migrate.specs.Raised.{raised_tree}
use Rattle.nb_migrate.specs.Accepted.{Accepted, accepted_notebook}
use Rattle.nb_params.specs.Refused.{is_refused}
use Rattle.words.specs.declared.ask.Ask.{Ask}
use Rattle.nb_load.specs.declared.load_fault.LoadFault.{LoadFault}
use Rattle.nb_load.specs.declared.load_fault.LoadFault.TheVariants as fault

-- the bytes spell this tree, nested at most 128 deep
pub record Gives (bytes : List ℕ) (t : Json) : Type 0 where
  pub spells : Spells t bytes
  pub within : depth t ≤ 128

-- the bytes give this notebook, of nbformat 4.5 or raised to it from 4.0 to 4.4
pub record IsNotebook (bytes : List ℕ) (n : Notebook) : Type 0 where
  pub tree : Json
  pub gives : Gives bytes tree
  pub valid : Accepted tree
  pub is : n ≡ accepted_notebook tree

-- they spell no tree that is nested at most so deep, and this fault stands in them
pub record IsNoJson (bytes : List ℕ) (f : JsonFault) : Type 0 where
  pub stands : json.Refused 128 bytes f
  pub none : (t : Json) → Gives bytes t → ⊥

-- they give a tree that is no notebook, for this first fault
pub record IsNoNotebook (bytes : List ℕ) (f : NbFault) : Type 0 where
  pub tree : Json
  pub gives : Gives bytes tree
  pub fault : fault_of (raised_tree tree) ≡ Some f

-- they give a notebook in whose language the parameters can't be written
pub record HasNoTranslator (a : Ask) (bytes language_name : List ℕ) : Type 0 where
  pub notebook : Notebook
  pub read : IsNotebook bytes notebook
  pub refused : is_refused notebook a.params ≡ true
  pub named : language_name ≡ language notebook

-- the bytes give a notebook that takes the parameters, and this is it with them
pub record Accepts (a : Ask) (bytes : List ℕ) (n : Notebook) : Type 0 where
  pub notebook : Notebook
  pub read : IsNotebook bytes notebook
  pub taken : is_refused notebook a.params ≡ false
  pub is : n ≡ injected_notebook notebook a.params a.report

-- why nothing is made of the bytes
abbrev pub Refuses : Ask → List ℕ → LoadFault → Type 0
Refuses a bytes (fault.NotJson f) = IsNoJson bytes f
Refuses a bytes (fault.NotNotebook f) = IsNoNotebook bytes f
Refuses a bytes (fault.NoTranslator language) = HasNoTranslator a bytes language
Refuses a bytes fault.NoMemory = Unit {0}
