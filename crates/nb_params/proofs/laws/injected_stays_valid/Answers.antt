use Rattle.nb_params.proofs.InjectedValid.{injected_valid}
use Rattle.nb_params.proofs.laws.injected_stays_valid.Goals as goal

pub returns : goal.returns
returns c n ps report few all v = injected_valid n ps report few all v
