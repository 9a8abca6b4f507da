use Rattle.std.proofs.Common.{◌++◌, ◌∷◌, [], ◌∙◌, sym, ap, codes, replicate}
use Rattle.jtext.specs.declared.json.Json.TheVariants as json
use Rattle.jtext.specs.Indent.{indent_fields}
use Rattle.nb_model.specs.Tree.{optional_pair}
use Rattle.nb_text.specs.Cells.{common_pairs}
use Rattle.nb_text.proofs.Texts.{Pair, line_before}
use Rattle.nb_text.proofs.cell_lines.put_prose.Goals as goal

pub returns-in_ok-put_common-in-Some : goal.returns-in_ok-put_common-in-Some
returns-in_ok-put_common-in-Some c =
    let m = replicate 3 32 in
    let out = c.args.out.now in
    let kind = c.args.kind.now in
    let cell = c.args.cell.now in
    let attachments : Pair = (codes "attachments", c.in-Some.attachments) in
    let first : Pair = (codes "cell_type", json.Str kind) in
    let lines = line_before m out _ _ _ attachments first ((codes "id", json.Str cell.id) ∷ (codes "metadata", cell.metadata) ∷ (codes "source", cell.source) ∷ []) c.in_ok-put_pair-in-Some.ensures c.in_ok-add-in-Some.ensures.ok c.in_ok-put_common-in-Some.ensures in
    lines ∙ ap (λ o. out ++ indent_fields m (optional_pair (codes "attachments") o ++ common_pairs kind cell)) (sym c.in-Some.is)
