use Rattle.progress_save.proofs.ValidLemmas.{prefix_read}
use Rattle.progress_save.proofs.laws.prefixes_read_back.Goals as goal

pub returns : goal.returns
returns c merge us p stop n t read v k s is = prefix_read merge us p stop n read t v k s is
