use Rattle.std.proofs.Common.{◌∷◌, ◌++◌, [], codes, replicate, ap, ◌∙◌}
use Rattle.jtext.specs.declared.json.Json.TheVariants as json
use Rattle.nb_text.specs.Lines.{line}
use Rattle.nb_text.proofs.Texts.{Pair, first_line, next_line}
use Rattle.nb_text.proofs.cell_lines.put_common.Goals as goal

pub returns : goal.returns
returns c =
    let m = replicate 3 32 in
    let out = c.args.out.now in
    let kind : Pair = (codes "cell_type", json.Str c.args.kind.now) in
    let id : Pair = (codes "id", json.Str c.args.cell.now.id) in
    let metadata : Pair = (codes "metadata", c.args.cell.now.metadata) in
    let source : Pair = (codes "source", c.args.cell.now.source) in
    let one = first_line m out _ kind c.in_ok-put_text_pair.ensures in
    let two = next_line m out _ _ _ kind [] id one c.in_ok-add.ensures.ok (c.in_ok-put_text_pair-2.ensures ∙ ap (λ s. c.add.new.self ++ line m (codes "id", json.Str s)) c.as_str.ensures) in
    let three = next_line m out _ _ _ kind (id ∷ []) metadata two c.in_ok-add-2.ensures.ok c.in_ok-put_pair.ensures in
    next_line m out _ _ _ kind (id ∷ metadata ∷ []) source three c.in_ok-add-3.ensures.ok c.in_ok-put_pair-2.ensures
