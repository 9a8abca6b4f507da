use Rattle.nb_params.proofs.InjectedKeyed.{injected_keyed}
use Rattle.nb_params.proofs.laws.injected_stays_keyed.Goals as goal

pub returns : goal.returns
returns c n ps report values names k = injected_keyed n ps report values names k
