use Rattle.toy_core.specs.Toy.{latest_of}
use Rattle.test_run.specs.declared.scripted.Scripted.{Scripted}
use Rattle.test_run.proofs.ScriptLemmas.{none_yet, one_more}
use Rattle.test_run.proofs.plays.pair.Goals as goal

pub returns : goal.returns
returns c =
    one_more (λ (k : Scripted). latest_of k.toy) _ _ _ c.in_ok-push-2.ensures.ok c.in_ok-kernel-2.ensures
    (one_more (λ (k : Scripted). latest_of k.toy) _ _ _ c.in_ok-push.ensures.ok c.in_ok-kernel.ensures
    (none_yet (λ (k : Scripted). latest_of k.toy) _ c.new-kernels.ensures))
