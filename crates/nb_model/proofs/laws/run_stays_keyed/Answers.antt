use Rattle.nb_model.proofs.RunLaws.{run_keyed}
use Rattle.nb_model.proofs.laws.run_stays_keyed.Goals as goal

pub returns : goal.returns
returns c old new r k = run_keyed old new r k
