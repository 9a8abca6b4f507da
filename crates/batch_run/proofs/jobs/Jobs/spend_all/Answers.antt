use Rattle.std.proofs.Common.{refl}
use Rattle.batch_run.specs.Owed.{none}
use Rattle.batch_run.specs.Stands.{owing}
use Rattle.batch_run.proofs.jobs.Jobs.spend_all.Goals as goal

pub loop-number-preserved : goal.loop-number-preserved
loop-number-preserved c = λ asks start from journal counts why s. c.spend.ensures.stands asks start (owing none from) journal counts why refl (c.loop-number.invariant asks start from journal counts why s)

pub returns-in_err-spend : goal.returns-in_err-spend
returns-in_err-spend c = record { stands = λ asks start from journal counts why s. c.spend.ensures.stands asks start (owing none from) journal counts why refl (c.loop-number.invariant asks start from journal counts why s) }
