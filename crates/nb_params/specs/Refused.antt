-- Which notebooks parameters can't be injected into (Papermill's translators).
use Rattle.std.specs.Prelude.{◌≡◌, ℕ, Bool, true, false, not, List, [], ◌∷◌}
use Rattle.jtext.specs.declared.json.Json.{Json}
use Rattle.nb_model.specs.declared.notebook.Notebook.{Notebook}
use Rattle.nb_params.specs.declared.fault.InjectFault.{InjectFault}
use Rattle.nb_params.specs.declared.fault.InjectFault.TheVariants as fault
use Rattle.nb_params.specs.Injected.{has_translator, language}

-- there is a parameter, and the language has no translator
abbrev pub is_refused : Notebook → List (List ℕ × Json) → Bool
is_refused n [] = false
is_refused n (p ∷ ps) = not (has_translator n)

-- why they can't: want of memory, or the language that has no translator
abbrev pub Refuses : Notebook → List (List ℕ × Json) → InjectFault → Type 0
Refuses n ps fault.NoMemory = Unit {0}
Refuses n ps (fault.NoTranslator name) = (is_refused n ps ≡ true) × (name ≡ language n)
