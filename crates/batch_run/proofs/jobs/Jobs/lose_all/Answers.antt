use Rattle.std.proofs.Common.{refl}
use Rattle.batch_run.specs.Owed.{none}
use Rattle.batch_run.specs.Stands.{owing}
use Rattle.batch_run.proofs.jobs.Jobs.lose_all.Goals as goal

pub loop-number-preserved : goal.loop-number-preserved
loop-number-preserved c = λ asks start from journal counts why s. c.lose.ensures.stands asks start (owing none from) journal counts why refl (c.loop-number.invariant asks start from journal counts why s)

pub returns-in_err-lose : goal.returns-in_err-lose
returns-in_err-lose c = record { stands = λ asks start from journal counts why s. c.lose.ensures.stands asks start (owing none from) journal counts why refl (c.loop-number.invariant asks start from journal counts why s) }
