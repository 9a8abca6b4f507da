use Rattle.nb_model.proofs.PreparedKeyed.{prepared_keyed}
use Rattle.nb_model.proofs.laws.prepared_stays_keyed.Goals as goal

pub returns : goal.returns
returns c n k = prepared_keyed n k
