use Rattle.toy_core.specs.declared.toy.Toy.{Toy}
use Rattle.toy_core.specs.Toy.{latest_of}
use Rattle.test_run.proofs.ScriptLemmas.{none_yet, one_more}
use Rattle.test_run.proofs.graphs.kernels.Goals as goal

pub loop-key-init : goal.loop-key-init
loop-key-init c = none_yet (λ (k : Toy). latest_of k) _ c.new-kernels.ensures

pub loop-key-preserved : goal.loop-key-preserved
loop-key-preserved c = one_more (λ (k : Toy). latest_of k) _ _ _ c.in_ok-push.ensures.ok c.in_ok-toy.ensures c.loop-key.invariant
