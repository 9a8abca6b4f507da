use Rattle.std.proofs.Common.{◌∷◌, [], ap, ◌∙◌, codes}
use Rattle.jtext.specs.declared.json.Json.TheVariants as json
use Rattle.nb_params.proofs.new_cell.metadata.Goals as goal

pub returns : goal.returns
returns c =
    c.in_ok-metadata.ensures
    ∙ ap (λ p. json.Obj (p ∷ [])) (c.in_ok-tags-2.ensures ∙ ap (λ v. (codes "tags", v)) (c.in_ok-tags.ensures ∙ ap (λ t. json.Arr (t ∷ [])) c.in_ok-tag.ensures))
