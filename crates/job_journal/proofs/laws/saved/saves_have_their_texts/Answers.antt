use Rattle.job_journal.proofs.Plots.{text_is}
use Rattle.job_journal.proofs.laws.saved.saves_have_their_texts.Goals as goal

pub returns : goal.returns
returns c = text_is
