use Rattle.jtext.proofs.Only.{one_tree}
use Rattle.jtext.proofs.laws.spells_one.Goals as goal

pub returns : goal.returns
returns c t u b is so = one_tree t u b is so
