use Rattle.toy_core.proofs.Happening.{served_more}
use Rattle.toy_core.proofs.Keeping.{keeps_self, keeps_then}
use Rattle.toy_core.proofs.machine.Machine.serve_all.Goals as goal

pub loop-body-init : goal.loop-body-init
loop-body-init c = record { stands = λ s a. a; keeps = keeps_self _ }

pub loop-body-preserved : goal.loop-body-preserved
loop-body-preserved c = record {
  stands = λ s a.
      rw (served_more c.args.now c.args.key.now c.args.chan c.loop-body.yielded c.in-Some.body s)
      (c.in_ok-serve.ensures.stands _ (c.loop-body.invariant.stands s a));
  keeps = keeps_then _ _ _ c.loop-body.invariant.keeps c.serve.ensures.keeps;
}
