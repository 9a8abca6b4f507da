use Rattle.job_journal.proofs.Lines.{line_gets}
use Rattle.job_journal.proofs.laws.lines.lines_get_pieces.Goals as goal

pub returns : goal.returns
returns c = line_gets
