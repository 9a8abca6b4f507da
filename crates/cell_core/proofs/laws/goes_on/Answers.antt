use Rattle.std.proofs.Common.{◌∙◌}
use Rattle.cell_core.specs.StandsFor.{task_of}
use Rattle.cell_core.proofs.Looks.{goes_on_is}
use Rattle.cell_core.proofs.laws.goes_on.Goals as goal

pub returns : goal.returns
returns c =
    let core = c.args.core.now in
    λ events h saved on. goes_on_is (task_of core) core.clock core.lost core.state events h.so (h.awaited ∙ saved) on
