use Rattle.cell_core.proofs.Answering.{heard_all}
use Rattle.cell_core.proofs.laws.all_are_heard.Goals as goal

pub returns : goal.returns
returns c = λ task told on. heard_all task told on
