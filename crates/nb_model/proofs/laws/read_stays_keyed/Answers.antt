use Rattle.nb_model.proofs.ReadKeyed.{read_keyed}
use Rattle.nb_model.proofs.laws.read_stays_keyed.Goals as goal

pub returns : goal.returns
returns c t k = read_keyed t k
