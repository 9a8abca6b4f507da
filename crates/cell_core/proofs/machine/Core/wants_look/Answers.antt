use Rattle.std.proofs.Common.{sym, ◌∙◌}
use Rattle.cell_core.specs.StandsFor.{task_of}
use Rattle.cell_core.proofs.Looks.{looks_is}
use Rattle.cell_core.proofs.machine.Core.wants_look.Goals as goal

pub returns : goal.returns
returns c =
    let core = c.args.self.now in
    λ events h. c.looks.ensures ∙ sym (looks_is (task_of core) core.clock core.lost core.state events h.so (sym h.awaited))
