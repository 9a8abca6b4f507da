use Rattle.run_rules.proofs.Told.{holds_due, holds_looks}
use Rattle.run_rules.proofs.laws.cores.cores_know_the_journal.Goals as goal

pub returns : goal.returns
returns c = record {
  looks = holds_looks;
  due = holds_due;
}
