use Rattle.nb_migrate.proofs.RaisedKeyed.{raised_keyed}
use Rattle.nb_migrate.proofs.laws.raised_stays_keyed.Goals as goal

pub returns : goal.returns
returns c t k = raised_keyed t k
