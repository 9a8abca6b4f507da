use Rattle.std.proofs.Common.{◌∙◌, ◌++◌, ◌∷◌, ap, arith, map, replicate, take}
use Rattle.std.proofs.lemmas.List.{length-take, length-map}
use Rattle.nb_text.specs.Cells.{cell_text}
use Rattle.nb_text.proofs.Texts.{grown_text, first_text, next_text}
use Rattle.nb_text.proofs.notebook_text.put_each_cell.Goals.{then-i-gt0+in_ok-add, else-i-gt0}
use Rattle.nb_text.proofs.notebook_text.put_each_cell.Goals as goal

pub loop-i-preserved : goal.loop-i-preserved
loop-i-preserved c =
    let cells = c.args.cells.now in
    let i = c.loop-i.i in
    let before = map cell_text (take i cells) in
    let more = grown_text cells i c.index-cells-i.result c.loop-i-test.true c.index-cells-i.is in
    let counted = length-map (take i cells) cell_text in
    let taken = length-take i cells in
    elim c.if-i-gt0.branch [
      | then-i-gt0+in_ok-add w ↦
          next_text before _ (cell_text c.index-cells-i.result) c.args.out.now c.loop-i.out w.add.new.self _ _ more (omega (arith, counted, taken, w.if-i-gt0.true, c.loop-i-test.true)) c.loop-i.invariant
          w.in_ok-add.ensures.ok (c.in_ok-new_line.ensures ∙ ap (λ o. o ++ 10 ∷ replicate 2 32) w.out-is) c.in_ok-put_cell.ensures
      | else-i-gt0 w ↦
          first_text before _ (cell_text c.index-cells-i.result) c.args.out.now c.loop-i.out _ _ more (omega (arith, counted, taken, w.if-i-gt0.false)) c.loop-i.invariant
          (c.in_ok-new_line.ensures ∙ ap (λ o. o ++ 10 ∷ replicate 2 32) w.out-is) c.in_ok-put_cell.ensures
    ]
