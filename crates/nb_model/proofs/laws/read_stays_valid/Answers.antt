use Rattle.nb_model.proofs.PreparedLaws.{read_valid}
use Rattle.nb_model.proofs.DepthLaws.{read_depth}
use Rattle.nb_model.proofs.laws.read_stays_valid.Goals as goal

pub returns-clause-valid : goal.returns-clause-valid
returns-clause-valid c t e = read_valid t e

pub returns-clause-depth : goal.returns-clause-depth
returns-clause-depth c t e k = read_depth t e k
