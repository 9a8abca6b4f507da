use Rattle.job_journal.proofs.Lines.{line_stays}
use Rattle.job_journal.proofs.laws.lines.lines_stay.Goals as goal

pub returns : goal.returns
returns c = line_stays
