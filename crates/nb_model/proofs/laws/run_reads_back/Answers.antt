use Rattle.nb_model.proofs.RunLaws.{run_valid, run_keyed}
use Rattle.nb_model.proofs.SortedValid.{read_valid, read_sorted}
use Rattle.nb_model.proofs.laws.run_reads_back.Goals as goal

pub returns-clause-valid : goal.returns-clause-valid
returns-clause-valid c old new u r v k s is = read_valid _ u s (run_keyed old new r k) (run_valid old new r v) is

pub returns-clause-same : goal.returns-clause-same
returns-clause-same c old new u r v k s is = read_sorted _ u s (run_keyed old new r k) is
