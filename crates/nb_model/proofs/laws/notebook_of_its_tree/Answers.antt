use Rattle.nb_model.proofs.TreeLaws.{sorted_same, printed_same}
use Rattle.nb_model.proofs.laws.notebook_of_its_tree.Goals as goal

pub returns-clause-sorted : goal.returns-clause-sorted
returns-clause-sorted c t v k = sorted_same t v k

pub returns-clause-printed : goal.returns-clause-printed
returns-clause-printed c t v k = printed_same t v k
