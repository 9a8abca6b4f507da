use Rattle.std.proofs.Common.{arith, refl, ◌∙◌}
use Rattle.std.proofs.lemmas.List.{length-set}
use Rattle.batch_run.proofs.LookLemmas.{looks_more, looks_start}
use Rattle.batch_run.proofs.running.Running.looks.Goals as goal

pub loop-number-init : goal.loop-number-init
loop-number-init c = record { size = refl; answers = looks_start c.args.self.now.jobs.slots.items _ }

pub loop-number-preserved : goal.loop-number-preserved
loop-number-preserved c =
    let low = c.loop-number-test.true in
    let size = c.loop-number.invariant.size in
    record {
      size = length-set _ _ _ ∙ size;
      answers = looks_more c.wants_look.result (omega (arith, low, size)) c.wants_look.ensures c.loop-number.invariant.answers;
    }
