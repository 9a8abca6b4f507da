use Rattle.nb_model.proofs.SortedTrees.{depth_stays}
use Rattle.nb_model.proofs.SortedValid.{notebook-stays}
use Rattle.nb_model.proofs.laws.sorted_stays_valid.Goals as goal

pub returns-clause-valid : goal.returns-clause-valid
returns-clause-valid c t k = notebook-stays t k

pub returns-clause-depth : goal.returns-clause-depth
returns-clause-depth c t k = depth_stays t k
