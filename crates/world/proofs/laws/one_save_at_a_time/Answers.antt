use Rattle.world.proofs.PartsLemmas.{acked_grows}
use Rattle.world.proofs.laws.one_save_at_a_time.Goals as goal

pub returns : goal.returns
returns c = λ from to entry past. acked_grows from to entry past
