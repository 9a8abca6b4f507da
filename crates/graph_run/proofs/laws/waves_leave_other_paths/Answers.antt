use Rattle.graph_run.proofs.LawLemmas.{wave_spares}
use Rattle.graph_run.proofs.laws.waves_leave_other_paths.Goals as goal

pub returns : goal.returns
returns c = wave_spares
