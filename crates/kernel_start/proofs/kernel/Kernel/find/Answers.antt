use Rattle.world.proofs.MomentsLemmas.{told_as}
use Rattle.kernel_start.proofs.FindingLaws.{find_part, find_spares}
use Rattle.kernel_start.proofs.kernel.Kernel.find.Goals as goal

pub returns-clause-others : goal.returns-clause-others
returns-clause-others g c path = told_as c.look_up.ensures.entries (find_spares path c.args.ask.now c.args.notebook.now c.look_up.result)

pub returns-clause-part : goal.returns-clause-part
returns-clause-part g c = told_as c.look_up.ensures.entries (find_part c.args.ask.now c.args.notebook.now c.look_up.result)
