use Rattle.job_journal.proofs.Making.{made_texts}
use Rattle.job_journal.proofs.laws.made.renamed_texts_are_due.Goals as goal

pub returns : goal.returns
returns c = made_texts
