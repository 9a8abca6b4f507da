use Rattle.std.proofs.Common.{◌∷◌, ◌++◌, [], codes, replicate, ap, ◌∙◌}
use Rattle.jtext.specs.declared.json.Json.TheVariants as json
use Rattle.nb_model.specs.Tree.{count_tree}
use Rattle.nb_text.specs.Lines.{line}
use Rattle.nb_text.proofs.Texts.{Pair, first_line, next_line}
use Rattle.nb_text.proofs.cell_lines.put_code.Goals as goal

pub returns : goal.returns
returns c =
    let m = replicate 3 32 in
    let out = c.args.out.now in
    let kind : Pair = (codes "cell_type", json.Str (codes "code")) in
    let count : Pair = (codes "execution_count", count_tree c.args.cell.now.count) in
    let id : Pair = (codes "id", json.Str c.args.cell.now.id) in
    let metadata : Pair = (codes "metadata", c.args.cell.now.metadata) in
    let outputs : Pair = (codes "outputs", json.Arr c.args.cell.now.outputs) in
    let source : Pair = (codes "source", c.args.cell.now.source) in
    let one = first_line m out _ kind c.in_ok-put_text_pair.ensures in
    let two = next_line m out _ _ _ kind [] count one c.in_ok-add.ensures.ok c.in_ok-put_count.ensures in
    let three = next_line m out _ _ _ kind (count ∷ []) id two c.in_ok-add-2.ensures.ok (c.in_ok-put_text_pair-2.ensures ∙ ap (λ s. c.add-2.new.self ++ line m (codes "id", json.Str s)) c.as_str.ensures) in
    let four = next_line m out _ _ _ kind (count ∷ id ∷ []) metadata three c.in_ok-add-3.ensures.ok c.in_ok-put_pair.ensures in
    let five = next_line m out _ _ _ kind (count ∷ id ∷ metadata ∷ []) outputs four c.in_ok-add-4.ensures.ok (c.in_ok-put_outputs.ensures ∙ ap (λ xs. c.add-4.new.self ++ line m (codes "outputs", json.Arr xs)) c.as_slice.ensures) in
    next_line m out _ _ _ kind (count ∷ id ∷ metadata ∷ outputs ∷ []) source five c.in_ok-add-5.ensures.ok c.in_ok-put_pair-2.ensures
