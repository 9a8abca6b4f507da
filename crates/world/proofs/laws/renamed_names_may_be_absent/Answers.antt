use Rattle.world.proofs.SaveLemmas.{source_options}
use Rattle.world.proofs.laws.renamed_names_may_be_absent.Goals as goal

pub returns : goal.returns
returns c = λ from to d past differ. source_options from to d past differ
