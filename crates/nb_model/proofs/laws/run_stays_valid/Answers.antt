use Rattle.nb_model.proofs.RunLaws.{run_valid}
use Rattle.nb_model.proofs.laws.run_stays_valid.Goals as goal

pub returns : goal.returns
returns c old new r v = run_valid old new r v
