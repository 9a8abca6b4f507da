use Rattle.sample_runs.proofs.KernelLemmas.{none_yet, one_more}
use Rattle.sample_runs.proofs.worlds.kernels.Goals as goal

pub returns : goal.returns
returns c =
    one_more _ _ _ c.in_ok-push-2.ensures.ok c.in_ok-second.ensures
    (one_more _ _ _ c.in_ok-push.ensures.ok c.in_ok-first.ensures (none_yet _ c.new-kernels.ensures))
