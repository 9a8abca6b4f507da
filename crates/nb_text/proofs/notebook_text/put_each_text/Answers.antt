use Rattle.std.proofs.Common.{◌∙◌, ◌++◌, ◌∷◌, ap, arith, replicate, take}
use Rattle.std.proofs.lemmas.List.{length-take}
use Rattle.nb_text.proofs.Texts.{grown, first_text, next_text}
use Rattle.nb_text.proofs.notebook_text.put_each_text.Goals.{then-i-gt0+in_ok-add, else-i-gt0}
use Rattle.nb_text.proofs.notebook_text.put_each_text.Goals as goal

pub loop-i-preserved : goal.loop-i-preserved
loop-i-preserved c =
    let texts = c.args.texts.now in
    let i = c.loop-i.i in
    let more = grown texts i c.index-texts-i.result c.loop-i-test.true c.index-texts-i.is in
    let taken = length-take i texts in
    elim c.if-i-gt0.branch [
      | then-i-gt0+in_ok-add w ↦
          next_text (take i texts) _ c.index-texts-i.result c.args.out.now c.loop-i.out w.add.new.self _ _ more (omega (arith, taken, w.if-i-gt0.true, c.loop-i-test.true)) c.loop-i.invariant
          w.in_ok-add.ensures.ok (c.in_ok-new_line.ensures ∙ ap (λ o. o ++ 10 ∷ replicate 2 32) w.out-is) (c.in_ok-add-2.ensures.ok ∙ ap (λ b. c.new_line.new.out ++ b) c.bytes.ensures)
      | else-i-gt0 w ↦
          first_text (take i texts) _ c.index-texts-i.result c.args.out.now c.loop-i.out _ _ more (omega (arith, taken, w.if-i-gt0.false)) c.loop-i.invariant
          (c.in_ok-new_line.ensures ∙ ap (λ o. o ++ 10 ∷ replicate 2 32) w.out-is) (c.in_ok-add-2.ensures.ok ∙ ap (λ b. c.new_line.new.out ++ b) c.bytes.ensures)
    ]
