use Rattle.std.proofs.Common.{inl, refl}
use Rattle.ready_loop.proofs.PartLemmas.{calls_start, calls_one}
use Rattle.ready_loop.proofs.beginning.close_where.Goals as goal

pub returns-then-begun-clause-calls : goal.returns-then-begun-clause-calls
returns-then-begun-clause-calls g c = calls_one c.close.ensures.tells (inl refl)

pub returns-else-begun-clause-calls : goal.returns-else-begun-clause-calls
returns-else-begun-clause-calls g c = calls_start
