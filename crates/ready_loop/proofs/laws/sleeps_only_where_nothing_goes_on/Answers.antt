use Rattle.ready_loop.proofs.RunLemmas.{sleeps_asleep, limit_most}
use Rattle.ready_loop.proofs.laws.sleeps_only_where_nothing_goes_on.Goals as goal

pub returns-clause-asleep : goal.returns-clause-asleep
returns-clause-asleep c = sleeps_asleep

pub returns-clause-sent : goal.returns-clause-sent
returns-clause-sent c = λ due h ms past rule p low open_up. (rule.served p low).sent open_up

pub returns-clause-least : goal.returns-clause-least
returns-clause-least c = λ due h ms past rule lt. rule.limit.rests (sleeps_asleep due h ms past rule lt)

pub returns-clause-most : goal.returns-clause-most
returns-clause-most c = limit_most
