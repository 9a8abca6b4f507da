use Rattle.job_run.proofs.ToldLemmas.{hears_named}
use Rattle.job_run.proofs.execution.Execution.note_broken.Goals as goal

pub returns-clause-holds : goal.returns-clause-holds
returns-clause-holds c =
    let h = c.requires.holds in
    record {
      ordered = h.ordered;
      cells = h.cells;
      begun = h.begun;
      settled = h.settled;
      asked = h.asked;
      sent = h.sent;
      early = h.early;
      heard = hears_named _ _ _ h.heard;
    }
