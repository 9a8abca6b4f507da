use Rattle.cell_core.specs.StandsFor.{task_of}
use Rattle.cell_core.proofs.Answering.{answers_kind}
use Rattle.cell_core.proofs.laws.events_have_their_acts.Goals as goal

pub returns : goal.returns
returns c =
    let core = c.args.core.now in
    λ event told h order timely on. answers_kind (task_of core) core.clock core.lost core.state event told h.so order timely on core.later
