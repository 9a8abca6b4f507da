use Rattle.job_journal.proofs.Breaking.{broken_same, fault_breaks, piece_breaks}
use Rattle.job_journal.proofs.laws.lines.pieces_break_streams.Goals as goal

pub returns : goal.returns
returns c = record {
  breaks = piece_breaks;
  fault = fault_breaks;
  stays = broken_same;
}
