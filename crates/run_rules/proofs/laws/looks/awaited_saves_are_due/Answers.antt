use Rattle.run_rules.proofs.Core.{awaits_due}
use Rattle.run_rules.proofs.laws.looks.awaited_saves_are_due.Goals as goal

pub returns : goal.returns
returns c = awaits_due
