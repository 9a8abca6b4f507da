use Rattle.run_rules.proofs.Told.{told_due, told_looks, unstopped}
use Rattle.run_rules.proofs.laws.cores.told_cores_answer.Goals as goal

pub returns : goal.returns
returns c = record {
  goes_on = unstopped;
  looks = told_looks;
  due = told_due;
}
