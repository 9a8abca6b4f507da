use Rattle.world_mem.specs.Far.{is_ready}
use Rattle.world_mem.proofs.StatusLemmas.{told_up, told_exact}
use Rattle.world_mem.proofs.world_wire.MemWorldWire.wait.Goals as goal

pub returns-clause-up : goal.returns-clause-up
returns-clause-up g c = told_up _ c.try_wait-did.ensures.journal c.tell.ensures.tells c.try_wait-did.ensures.up

pub returns-clause-exact : goal.returns-clause-exact
returns-clause-exact g c =
    told_exact _ (is_ready g.K.KernelSide.gives c.try_wait-did.new.self.kernels.items c.args.self.now.far.clock) c.try_wait-did.result c.try_wait-did.ensures.journal c.tell.ensures.tells c.try_wait-did.ensures.reports
