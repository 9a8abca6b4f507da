use Rattle.std.proofs.Common.{◌∷◌, [], ap₂, ◌∙◌}
use Rattle.jtext.specs.declared.json.Json.TheVariants as json
use Rattle.nb_text.proofs.generator.kernelspec.Goals as goal

pub returns : goal.returns
returns c = c.in_ok-spec.ensures ∙ ap₂ (λ p q. json.Obj (p ∷ q ∷ [])) c.in_ok-shown.ensures c.in_ok-name.ensures
