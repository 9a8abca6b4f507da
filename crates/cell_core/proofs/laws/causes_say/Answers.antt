use Rattle.cell_core.proofs.CauseSays.{says_so}
use Rattle.cell_core.proofs.laws.causes_say.Goals as goal

pub returns : goal.returns
returns c = λ task events cause h. says_so task events cause h
