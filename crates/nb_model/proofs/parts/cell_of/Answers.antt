use Rattle.std.proofs.Common.{◌≡◌, [], ◌∷◌, ap, ◌∙◌, refl}
use Rattle.std.specs.Prelude.{codes, unwrap_or, option_and_then}
use Rattle.jtext.specs.declared.json.Json.TheVariants as json
use Rattle.jtext.specs.Find.{find, field}
use Rattle.jtext.specs.Look.{items, string, number}
use Rattle.nb_model.specs.Pairs.{pairs_without}
use Rattle.nb_model.specs.Reading.{kind_named}
use Rattle.nb_model.proofs.PairsLemmas.{without_all, find-without_all, same_cell}
use Rattle.nb_model.proofs.parts.cell_of.Goals as goal

pub returns : goal.returns
returns c =
    let t = c.args.c in
    let ps = c.into_pairs-pairs.result in
    let is = c.into_pairs-pairs.ensures in
    let d1 : c.take.new.pairs ≡ without_all (codes "cell_type" ∷ []) ps = c.take.ensures.rest in
    let d2 : c.take-2.new.pairs ≡ without_all (codes "cell_type" ∷ codes "id" ∷ []) ps = c.take-2.ensures.rest ∙ ap (pairs_without (codes "id")) d1 in
    let d3 : c.take-3.new.pairs ≡ without_all (codes "cell_type" ∷ codes "id" ∷ codes "metadata" ∷ []) ps = c.take-3.ensures.rest ∙ ap (pairs_without (codes "metadata")) d2 in
    let d4 : c.take-4.new.pairs ≡ without_all (codes "cell_type" ∷ codes "id" ∷ codes "metadata" ∷ codes "source" ∷ []) ps = c.take-4.ensures.rest ∙ ap (pairs_without (codes "source")) d3 in
    let d5 : c.take-attachments.new.pairs ≡ without_all (codes "cell_type" ∷ codes "id" ∷ codes "metadata" ∷ codes "source" ∷ codes "attachments" ∷ []) ps = c.take-attachments.ensures.rest ∙ ap (pairs_without (codes "attachments")) d4 in
    let d6 : c.take-5.new.pairs ≡ without_all (codes "cell_type" ∷ codes "id" ∷ codes "metadata" ∷ codes "source" ∷ codes "attachments" ∷ codes "outputs" ∷ []) ps = c.take-5.ensures.rest ∙ ap (pairs_without (codes "outputs")) d5 in
    let v0 : c.take.result ≡ field t (codes "cell_type") = c.take.ensures.value ∙ ap (find (codes "cell_type")) is in
    let v1 : c.take-2.result ≡ field t (codes "id") = c.take-2.ensures.value ∙ ap (find (codes "id")) d1 ∙ find-without_all (codes "id") (codes "cell_type" ∷ []) ps refl ∙ ap (find (codes "id")) is in
    let v2 : c.take-3.result ≡ field t (codes "metadata") = c.take-3.ensures.value ∙ ap (find (codes "metadata")) d2 ∙ find-without_all (codes "metadata") (codes "cell_type" ∷ codes "id" ∷ []) ps refl ∙ ap (find (codes "metadata")) is in
    let v3 : c.take-4.result ≡ field t (codes "source") = c.take-4.ensures.value ∙ ap (find (codes "source")) d3 ∙ find-without_all (codes "source") (codes "cell_type" ∷ codes "id" ∷ codes "metadata" ∷ []) ps refl ∙ ap (find (codes "source")) is in
    let v4 : c.take-attachments.result ≡ field t (codes "attachments") = c.take-attachments.ensures.value ∙ ap (find (codes "attachments")) d4 ∙ find-without_all (codes "attachments") (codes "cell_type" ∷ codes "id" ∷ codes "metadata" ∷ codes "source" ∷ []) ps refl ∙ ap (find (codes "attachments")) is in
    let v5 : c.take-5.result ≡ field t (codes "outputs") = c.take-5.ensures.value ∙ ap (find (codes "outputs")) d5 ∙ find-without_all (codes "outputs") (codes "cell_type" ∷ codes "id" ∷ codes "metadata" ∷ codes "source" ∷ codes "attachments" ∷ []) ps refl ∙ ap (find (codes "outputs")) is in
    let v6 : c.take-6.result ≡ field t (codes "execution_count") = c.take-6.ensures.value ∙ ap (find (codes "execution_count")) d6 ∙ find-without_all (codes "execution_count") (codes "cell_type" ∷ codes "id" ∷ codes "metadata" ∷ codes "source" ∷ codes "attachments" ∷ codes "outputs" ∷ []) ps refl ∙ ap (find (codes "execution_count")) is in
    same_cell
    (c.kind_of-kind.ensures ∙ ap (λ o. kind_named (unwrap_or (option_and_then string o) [])) v0)
    (c.text_of-id.ensures ∙ ap (λ o. unwrap_or (option_and_then string o) []) v1)
    (c.or_null-metadata.ensures ∙ ap (λ o. unwrap_or o json.Null) v2)
    (c.or_null-source.ensures ∙ ap (λ o. unwrap_or o json.Null) v3)
    v4
    (c.items_of-outputs.ensures ∙ ap (λ o. items (unwrap_or o json.Null)) v5)
    (c.number_of-count.ensures ∙ ap (λ o. option_and_then number o) v6)
