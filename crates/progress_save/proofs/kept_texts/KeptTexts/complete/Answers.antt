use Rattle.std.proofs.Common.{refl, ◌∙◌, arith}
use Rattle.std.proofs.lemmas.Option.{slice_get_read}
use Rattle.progress_save.proofs.KeptLemmas.{made_more, all_made}
use Rattle.progress_save.proofs.kept_texts.KeptTexts.complete.Goals as goal

pub loop-i-preserved : goal.loop-i-preserved
loop-i-preserved c =
    let at = slice_get_read c.args.cells.now _ c.loop-i.i c.index-cells-i.result refl c.loop-i-test.true c.index-cells-i.is in
    record {
      same = λ j. c.in_ok-renew.ensures.same j ∙ c.loop-i.invariant.same j;
      made = made_more c.loop-i.self c.renew.new.self c.args.cells.now c.loop-i.i c.index-cells-i.result at c.loop-i-test.true c.loop-i.invariant.made c.in_ok-renew.ensures.made;
    }

pub returns-clause-made : goal.returns-clause-made
returns-clause-made c = all_made c.loop-i.self c.args.cells.now c.loop-i.i (omega arith) c.loop-i.invariant.made
