use Rattle.progress_save.proofs.ValidLemmas.{prefix_valid}
use Rattle.progress_save.proofs.laws.prefixes_stay_valid.Goals as goal

pub returns : goal.returns
returns c merge us p stop n read v = prefix_valid merge us p stop n read v
