use Rattle.std.proofs.Common.{◌∙◌}
use Rattle.nbrun_top.proofs.OpeningLemmas.{one_item}
use Rattle.nbrun_top.proofs.exercise_opening.kernels.Goals as goal

pub returns-clause-fresh : goal.returns-clause-fresh
returns-clause-fresh c =
    record {
      kernel = c.in_ok-kernel.kernel;
      one = one_item _ _ _ c.in_ok-push.ensures.ok c.new-kernels.ensures;
      fresh = c.in_ok-kernel.ensures.stands;
      key = c.in_ok-kernel.ensures.key ∙ c.in_ok-key.ensures;
    }

pub returns-clause-early : goal.returns-clause-early
returns-clause-early c =
    record {
      kernel = c.in_ok-kernel.kernel;
      one = one_item _ _ _ c.in_ok-push.ensures.ok c.new-kernels.ensures;
      early = c.in_ok-kernel.ensures.latest;
    }
