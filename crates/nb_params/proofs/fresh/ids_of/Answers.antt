use Rattle.std.proofs.Common.{sym, ap, ◌∙◌, cond, true, get_or}
use Rattle.std.specs.Str.{bytes_eq}
use Rattle.std.specs.BTreeSet.{contains_text}
use Rattle.std.proofs.lemmas.Map.Text.{btree_set_updates_text}
use Rattle.nb_params.proofs.Ids.{more_ids}
use Rattle.nb_params.proofs.fresh.ids_of.Goals as goal

pub loop-cell-preserved : goal.loop-cell-preserved
loop-cell-preserved c q =
    let update = btree_set_updates_text _ c.loop-cell.ids c.insert.new.self true c.in_ok-insert.ensures.updates q in
    let more = more_ids q c.args.cells.now c.loop-cell.cell-index c.cell-item.result c.loop-cell-test.true in
    let id = c.in_ok-from_str.ensures.ok ∙ c.as_str.ensures ∙ ap (λ cell. cell.id) c.cell-item.is in
    update ∙ ap (λ x. cond (bytes_eq x q) true (contains_text c.loop-cell.ids q)) id ∙ ap (λ b. cond (bytes_eq (get_or c.args.cells.now c.loop-cell.cell-index c.cell-item.result).id q) true b) (c.loop-cell.invariant q) ∙ sym more
