use Rattle.world.proofs.SaveLemmas.{sync_failed, dir_sync_failed}
use Rattle.world.proofs.laws.failed_syncs_change_nothing.Goals as goal

pub returns-clause-file : goal.returns-clause-file
returns-clause-file c = λ path other past. sync_failed path other past

pub returns-clause-folder : goal.returns-clause-folder
returns-clause-folder c = λ dir other past. dir_sync_failed dir other past
