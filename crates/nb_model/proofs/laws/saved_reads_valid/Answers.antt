use Rattle.nb_model.proofs.SortedValid.{read_valid}
use Rattle.nb_model.proofs.laws.saved_reads_valid.Goals as goal

pub returns : goal.returns
returns c t u s k v is = read_valid t u s k v is
