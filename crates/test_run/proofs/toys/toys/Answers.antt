use Rattle.toy_core.specs.declared.toy.Toy.{Toy}
use Rattle.toy_core.specs.Toy.{latest_of}
use Rattle.test_run.proofs.ScriptLemmas.{none_yet, one_more}
use Rattle.test_run.proofs.toys.toys.Goals as goal

pub returns : goal.returns
returns c =
    one_more (λ (k : Toy). latest_of k) _ _ c.in_ok-toy.toy c.in_ok-push.ensures.ok c.in_ok-toy.ensures
    (none_yet (λ (k : Toy). latest_of k) _ c.new-kernels.ensures)
