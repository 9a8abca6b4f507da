use Rattle.nb_migrate.proofs.Depths.{no_deeper}
use Rattle.nb_migrate.proofs.laws.raised_no_deeper.Goals as goal

pub returns : goal.returns
returns c t = no_deeper t
