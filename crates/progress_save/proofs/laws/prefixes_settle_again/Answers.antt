use Rattle.progress_save.proofs.PrefixLemmas.{prefix_again}
use Rattle.progress_save.proofs.laws.prefixes_settle_again.Goals as goal

pub returns : goal.returns
returns c merge was us p q stop n le = prefix_again merge was us p q stop n le
