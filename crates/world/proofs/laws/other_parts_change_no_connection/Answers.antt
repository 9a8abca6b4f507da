use Rattle.world.proofs.PartsLemmas.{status_kept}
use Rattle.world.proofs.laws.other_parts_change_no_connection.Goals as goal

pub returns : goal.returns
returns c = λ p before after since. status_kept p since
