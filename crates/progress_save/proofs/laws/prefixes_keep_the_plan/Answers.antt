use Rattle.progress_save.proofs.PrefixLemmas.{prefix_plan}
use Rattle.progress_save.proofs.laws.prefixes_keep_the_plan.Goals as goal

pub returns : goal.returns
returns c merge us p stop n = prefix_plan merge us p stop n
