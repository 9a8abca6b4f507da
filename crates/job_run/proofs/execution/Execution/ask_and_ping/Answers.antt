use Rattle.job_run.proofs.ClockLemmas.{asked_then}
use Rattle.job_run.proofs.execution.Execution.ask_and_ping.Goals as goal

pub returns-clause-stands : goal.returns-clause-stands
returns-clause-stands c = asked_then c.ping.result c.args.self.now c.ask.new.self c.ping.new.self c.in_ok-ask.ensures.stands c.ping.ensures.stands
