use Rattle.std.proofs.Common.{◌≡◌, [], ◌∷◌, ap, ◌∙◌, refl, map}
use Rattle.std.specs.Prelude.{codes, unwrap_or}
use Rattle.jtext.specs.declared.json.Json.TheVariants as json
use Rattle.jtext.specs.Find.{find, field}
use Rattle.jtext.specs.Look.{items}
use Rattle.nb_model.specs.Reading.{cell_of}
use Rattle.nb_model.proofs.PairsLemmas.{find-without_all, same_notebook}
use Rattle.nb_model.proofs.parts.notebook_of.Goals as goal

pub returns : goal.returns
returns c =
    let t = c.args.t in
    let ps = c.into_pairs-pairs.result in
    let is = c.into_pairs-pairs.ensures in
    let v0 : c.take.result ≡ field t (codes "metadata") = c.take.ensures.value ∙ ap (find (codes "metadata")) is in
    let v1 : c.take-2.result ≡ field t (codes "cells") =
    c.take-2.ensures.value ∙ ap (find (codes "cells")) c.take.ensures.rest ∙ find-without_all (codes "cells") (codes "metadata" ∷ []) ps refl ∙ ap (find (codes "cells")) is in
    same_notebook
    (c.or_null-metadata.ensures ∙ ap (λ o. unwrap_or o json.Null) v0)
    (c.in_ok-cells_of.ensures ∙ ap (map cell_of) (c.items_of-items.ensures ∙ ap (λ o. items (unwrap_or o json.Null)) v1))
