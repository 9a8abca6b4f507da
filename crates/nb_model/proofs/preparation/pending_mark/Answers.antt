use Rattle.std.proofs.Common.{◌∷◌, [], ap₂, ◌∙◌}
use Rattle.jtext.specs.declared.json.Json.TheVariants as json
use Rattle.nb_model.proofs.preparation.pending_mark.Goals as goal

pub returns : goal.returns
returns c = c.in_ok-mark.ensures ∙ ap₂ (λ p q. json.Obj (p ∷ q ∷ [])) c.in_ok-exception.ensures c.in_ok-status.ensures
