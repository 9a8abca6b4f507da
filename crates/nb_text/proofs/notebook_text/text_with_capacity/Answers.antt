use Rattle.std.proofs.Common.{◌++◌, map, ap, ◌∙◌}
use Rattle.nb_text.specs.Cells.{cell_text}
use Rattle.nb_text.specs.Notebooks.{cells_line}
use Rattle.nb_text.proofs.Texts.{text_done, printed}
use Rattle.nb_text.proofs.notebook_text.text_with_capacity.Goals as goal

pub returns : goal.returns
returns c =
    let n = c.args.n.now in
    text_done n.metadata (map cell_text n.cells) _ _ _ _ (c.of_vec-out.ensures ∙ c.in_ok-with_capacity.ensures.items) c.in_ok-add.ensures.ok
    (c.in_ok-put_cells.ensures ∙ ap (λ cs. c.add.new.self ++ cells_line (map cell_text cs)) c.as_slice.ensures) c.in_ok-put_rest.ensures
    ∙ printed n
