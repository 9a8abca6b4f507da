use Rattle.nb_text.proofs.GeneratedValid.{generated_valid, generated_keyed}
use Rattle.nb_text.proofs.laws.generated_is_valid.Goals as goal

pub returns-clause-valid : goal.returns-clause-valid
returns-clause-valid c n h = generated_valid n h

pub returns-clause-keyed : goal.returns-clause-keyed
returns-clause-keyed c n = generated_keyed n
