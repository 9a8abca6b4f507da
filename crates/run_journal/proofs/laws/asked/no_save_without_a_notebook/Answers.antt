use Rattle.run_journal.proofs.AskedLemmas.{no_save}
use Rattle.run_journal.proofs.laws.asked.no_save_without_a_notebook.Goals as goal

pub returns : goal.returns
returns c = no_save
