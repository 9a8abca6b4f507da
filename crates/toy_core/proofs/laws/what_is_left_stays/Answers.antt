use Rattle.toy_core.proofs.Trimming.{trimmed_left}
use Rattle.toy_core.proofs.laws.what_is_left_stays.Goals as goal

pub returns : goal.returns
returns c = trimmed_left
