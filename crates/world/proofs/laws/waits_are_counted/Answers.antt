use Rattle.world.specs.Waits.{wait_count}
use Rattle.world.proofs.WaitsLemmas.{wait_counted, not_counted}
use Rattle.world.proofs.laws.waits_are_counted.Goals as goal

pub returns-clause-wait : goal.returns-clause-wait
returns-clause-wait c = λ old new ms reports d past cause e. wait_counted old new _ (wait_count past) cause e

pub returns-clause-other : goal.returns-clause-other
returns-clause-other c = λ entry past e. not_counted entry past e
