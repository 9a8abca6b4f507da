use Rattle.cell_core.specs.StandsFor.{task_of}
use Rattle.cell_core.proofs.Answering.{messages_end}
use Rattle.cell_core.proofs.laws.messages_end_requests.Goals as goal

pub returns : goal.returns
returns c =
    let core = c.args.core.now in
    λ event told h idle on is. messages_end (task_of core) core.clock core.lost core.state event told h.so idle on core.later is
