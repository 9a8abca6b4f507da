use Rattle.job_journal.proofs.Sources.{cell_as_read}
use Rattle.job_journal.proofs.laws.starting.cells_are_as_read.Goals as goal

pub returns : goal.returns
returns c = cell_as_read c.cells_of_prefixes.ensures.each c.cells_of_prefixes.ensures.waiting
