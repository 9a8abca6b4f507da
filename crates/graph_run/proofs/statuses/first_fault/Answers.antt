use Rattle.std.proofs.Common.{arith}
use Rattle.graph_run.specs.Answers.{FirstFault}
use Rattle.graph_run.proofs.TestLemmas.{fault_at}
use Rattle.graph_run.proofs.statuses.first_fault.Goals as goal

pub returns-then-status-ne0 : goal.returns-then-status-ne0
returns-then-status-ne0 c =
    FirstFault.first c.loop-job.job c.unwrap_or-status.result (omega (arith, c.loop-job-test.true)) c.loop-job.invariant
    (fault_at _ c.unwrap_or-status.result _ c.status_of.ensures c.unwrap_or-status.ensures c.if-status-ne0.true) c.if-status-ne0.true

pub returns : goal.returns
returns c = FirstFault.none (λ job below. c.loop-job.invariant job (omega (arith, below, c.loop-job-test.false)))
