use Rattle.cell_core.proofs.Looks.{timely}
use Rattle.cell_core.proofs.laws.read_in_time.Goals as goal

pub returns : goal.returns
returns c = λ task now events saved look le. timely task now events saved look le
