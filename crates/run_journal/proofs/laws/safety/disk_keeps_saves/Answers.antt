use Rattle.run_journal.proofs.Safety.{saves_quiet, quiet_on_disk}
use Rattle.run_journal.proofs.laws.safety.disk_keeps_saves.Goals as goal

pub returns : goal.returns
returns c j entry past e = saves_quiet j entry past (quiet_on_disk j entry e)
