use Rattle.job_journal.proofs.Coming.{has_come}
use Rattle.job_journal.proofs.laws.pieces.pieces_come.Goals as goal

pub returns : goal.returns
returns c = λ p number old new conn room bytes ms past h. has_come p number old new conn room bytes ms past h c.decoder_answers.ensures.brings
