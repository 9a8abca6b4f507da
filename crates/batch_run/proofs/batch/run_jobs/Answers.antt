use Rattle.std.proofs.Common.{arith}
use Rattle.world.specs.Moments.{start}
use Rattle.world.proofs.CountsLemmas.{grow_start}
use Rattle.world.proofs.MomentsLemmas.{told_start}
use Rattle.batch_run.specs.Batch.{nothing}
use Rattle.batch_run.proofs.batch.run_jobs.Goals as goal

pub returns-in-Err-clause-jobs : goal.returns-in-Err-clause-jobs
returns-in-Err-clause-jobs g c = told_start (λ x i a at apart rested. nothing tt start)

pub returns-in-Err-clause-others : goal.returns-in-Err-clause-others
returns-in-Err-clause-others g c = told_start (λ x path none. start)

pub returns-in-Err-clause-counts : goal.returns-in-Err-clause-counts
returns-in-Err-clause-counts g c = grow_start _

pub returns-in-Err-clause-calls : goal.returns-in-Err-clause-calls
returns-in-Err-clause-calls g c = told_start (λ x clean begins. start)

pub returns-in-Err-clause-children : goal.returns-in-Err-clause-children
returns-in-Err-clause-children g c = told_start (λ x i a at none. none)

pub returns-in-Err-clause-waits : goal.returns-in-Err-clause-waits
returns-in-Err-clause-waits g c = omega arith
