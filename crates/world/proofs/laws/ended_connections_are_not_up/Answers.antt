use Rattle.std.proofs.Common.{ap}
use Rattle.world.specs.Places.{Status}
use Rattle.world.proofs.StatusLemmas.{ended_own, refused_own, closed_own}
use Rattle.world.proofs.laws.ended_connections_are_not_up.Goals as goal

pub returns-clause-ended : goal.returns-clause-ended
returns-clause-ended c = λ conn by past. ap (λ s. Status.up s) (ended_own conn by past)

pub returns-clause-refused : goal.returns-clause-refused
returns-clause-refused c = λ conn by past. ap (λ s. Status.up s) (refused_own conn by past)

pub returns-clause-closed : goal.returns-clause-closed
returns-clause-closed c = λ conn past. ap (λ s. Status.up s) (closed_own conn past)
