use Rattle.std.proofs.Common.{◌==◌, ◌∙◌, ap, not, filter, rules}
use Rattle.std.proofs.lemmas.Fn.{filter_same}
use Rattle.display_index.specs.declared.place.Place.{Place}
use Rattle.display_index.proofs.place.outside_of.Goals as goal

pub returns : goal.returns
returns c =
    c.of_vec.ensures ∙ filter_same _ (λ (p : Place). not (p.cell == c.args.cell)) _ (λ x b f' k. search rules) _ _ c.retain.ensures.filtered
    ∙ ap (λ ps. filter (λ (p : Place). not (p.cell == c.args.cell)) ps) c.into_vec-left.ensures
