use Rattle.run_rules.proofs.Wanted.{wanted_same}
use Rattle.run_rules.proofs.laws.looks.looks_agree.Goals as goal

pub returns : goal.returns
returns c = wanted_same
