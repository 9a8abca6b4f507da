use Rattle.std.proofs.Common.{◌∷◌, sym}
use Rattle.cell_core.specs.declared.event.Event.TheVariants.{Lost}
use Rattle.cell_core.specs.StandsFor.{task_of}
use Rattle.cell_core.proofs.LossAgain.{lost_again}
use Rattle.cell_core.proofs.Runs.{awaits_is}
use Rattle.cell_core.proofs.laws.a_loss_again.Goals as goal

pub returns : goal.returns
returns c =
    let core = c.args.core.now in
    λ events idle h.
    let so = lost_again (task_of core) core.clock core.lost core.state events h.so idle core.later in
    record { so = so; awaited = sym (awaits_is (task_of core) core.clock core.lost core.state (Lost ∷ Lost ∷ events) so) }
