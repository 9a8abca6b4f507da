use Rattle.nb_model.proofs.FaultLaws.{fault-none}
use Rattle.nb_model.proofs.laws.faulty_where_invalid.Goals as goal

pub returns : goal.returns
returns c t = fault-none t
