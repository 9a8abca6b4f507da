use Rattle.toy_core.proofs.Settling.{stays_self}
use Rattle.toy_core.proofs.toy.ToyKernelSide.take.Goals as goal

pub returns-then-self-clause-due : goal.returns-then-self-clause-due
returns-then-self-clause-due c = stays_self c.args.now c.args.self.now.machine
