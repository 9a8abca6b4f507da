use Rattle.kspec.proofs.Unique.{one_filling}
use Rattle.kspec.proofs.laws.one_filling.Goals as goal

pub returns : goal.returns
returns c = one_filling
