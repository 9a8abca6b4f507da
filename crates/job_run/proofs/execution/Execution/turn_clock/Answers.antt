use Rattle.std.proofs.Common.{arith}
use Rattle.std.specs.Prelude.{is_some}
use Rattle.job_run.proofs.ToldLemmas.{hears_later}
use Rattle.job_run.proofs.execution.Execution.turn_clock.Goals as goal

pub returns-clause-holds : goal.returns-clause-holds
returns-clause-holds c =
    let h = c.requires.holds in
    let x = c.args.self.now in
    record {
      ordered = h.ordered;
      cells = h.cells;
      begun = h.begun;
      settled = h.settled;
      asked = h.asked;
      sent = h.sent;
      early = c.requires.early;
      heard = hears_later x.core x.clock c.args.ms (is_some x.broken) (omega (arith, c.if-ms-self.false)) h.heard;
    }

pub returns-then-ms-self-clause-turns : goal.returns-then-ms-self-clause-turns
returns-then-ms-self-clause-turns c within = omega (arith, within, c.if-ms-self.true)
