use Rattle.job_journal.proofs.Heard.{hears_whole, seen_stays}
use Rattle.job_journal.proofs.laws.heard.pieces_are_heard.Goals as goal

pub returns : goal.returns
returns c = record {
  whole = hears_whole;
  quiet = seen_stays;
}
