use Rattle.job_journal.proofs.Acking.{saved_ends, saved_sends, saved_waits}
use Rattle.job_journal.proofs.Again.{saves_again}
use Rattle.job_journal.proofs.laws.saving.saves_are_acknowledged.Goals as goal

pub returns : goal.returns
returns c = record {
  sends = saved_sends;
  waits = saved_waits;
  again = saves_again;
  ended = saved_ends;
}
