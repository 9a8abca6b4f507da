use Rattle.progress_save.proofs.ValidLemmas.{prefix_keyed}
use Rattle.progress_save.proofs.laws.prefixes_stay_keyed.Goals as goal

pub returns : goal.returns
returns c merge us p stop n read k = prefix_keyed merge us p stop n read k
