use Rattle.job_journal.proofs.Lines.{piece_brings}
use Rattle.job_journal.proofs.laws.lines.pieces_bring_bodies.Goals as goal

pub returns : goal.returns
returns c = piece_brings c.decoder_answers.ensures.brings
