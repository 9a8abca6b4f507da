use Rattle.job_journal.proofs.Lines.{line_hands}
use Rattle.job_journal.proofs.laws.lines.lines_hand_out.Goals as goal

pub returns : goal.returns
returns c = line_hands
