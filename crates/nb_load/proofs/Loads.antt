-- From a refused injection to its reason.
use Rattle.std.proofs.Common.{◌≡◌, ℕ, List, subst}
use Rattle.nb_model.specs.declared.notebook.Notebook.{Notebook}
use Rattle.nb_params.specs.Refused as refused
use Rattle.nb_params.specs.declared.fault.InjectFault.{InjectFault}
use Rattle.nb_params.specs.declared.fault.InjectFault.TheVariants as inject_fault
use Rattle.words.specs.declared.ask.Ask.{Ask}
use Rattle.nb_load.specs.Loaded.{IsNotebook, HasNoTranslator}

pub no_translator : (a : Ask) (n : Notebook) (f : InjectFault) (l : List ℕ) → f ≡ inject_fault.NoTranslator l
    → refused.Refuses n a.params f → (bytes : List ℕ) → IsNotebook bytes n → HasNoTranslator a bytes l
no_translator a n f l is why bytes read =
    let h = subst (refused.Refuses n a.params) is why in record { notebook = n; read = read; refused = h.0; named = h.1 }
