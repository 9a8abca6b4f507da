use Rattle.world.proofs.MomentsLemmas.{told_as}
use Rattle.world_mem.proofs.ReportLemmas.{none_up}
use Rattle.world_mem.proofs.null_world.NullWorldWire.wait.Goals as goal

pub returns-clause-up : goal.returns-clause-up
returns-clause-up c = told_as c.tell.ensures.tells (λ before after told. none_up before)
