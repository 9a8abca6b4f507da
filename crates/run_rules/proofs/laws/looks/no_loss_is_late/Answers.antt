use Rattle.run_rules.proofs.Core.{looks_over}
use Rattle.run_rules.proofs.Opening.{shut_late}
use Rattle.run_rules.proofs.laws.looks.no_loss_is_late.Goals as goal

pub returns : goal.returns
returns c jobs j past r shut = shut_late j past (looks_over jobs j past r) shut
