use Rattle.job_journal.proofs.Making.{made_grows, due_while_running}
use Rattle.job_journal.proofs.laws.made.saves_go_on.Goals as goal

pub returns : goal.returns
returns c = record {
  passing = made_grows;
  running = due_while_running;
}
