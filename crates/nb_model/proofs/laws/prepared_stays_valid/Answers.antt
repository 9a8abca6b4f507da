use Rattle.nb_model.proofs.PreparedLaws.{prepared_valid}
use Rattle.nb_model.proofs.DepthLaws.{prepared_within}
use Rattle.nb_model.proofs.laws.prepared_stays_valid.Goals as goal

pub returns : goal.returns
returns c n v = record { notebook = prepared_valid n v.notebook; within = prepared_within n v.within }
