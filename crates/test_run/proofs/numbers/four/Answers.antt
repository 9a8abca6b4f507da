use Rattle.toy_core.specs.declared.toy.Toy.{Toy}
use Rattle.toy_core.specs.Toy.{latest_of}
use Rattle.test_run.proofs.ScriptLemmas.{none_yet, one_more}
use Rattle.test_run.proofs.numbers.four.Goals as goal

pub returns : goal.returns
returns c =
    one_more (λ (k : Toy). latest_of k) _ _ _ c.in_ok-push-4.ensures.ok c.in_ok-toy-4.ensures
    (one_more (λ (k : Toy). latest_of k) _ _ _ c.in_ok-push-3.ensures.ok c.in_ok-toy-3.ensures
    (one_more (λ (k : Toy). latest_of k) _ _ _ c.in_ok-push-2.ensures.ok c.in_ok-toy-2.ensures
    (one_more (λ (k : Toy). latest_of k) _ _ _ c.in_ok-push.ensures.ok c.in_ok-toy.ensures
    (none_yet (λ (k : Toy). latest_of k) _ c.new-kernels.ensures))))
