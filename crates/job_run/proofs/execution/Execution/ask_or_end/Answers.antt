use Rattle.job_run.proofs.ClockLemmas.{turned_starved}
use Rattle.job_run.proofs.execution.Execution.ask_or_end.Goals as goal

pub returns-in-Ok-clause-stands : goal.returns-in-Ok-clause-stands
returns-in-Ok-clause-stands c p number now h = c.in-Ok.ensures.stands p number now h

pub returns-in-Err-clause-stands : goal.returns-in-Err-clause-stands
returns-in-Err-clause-stands c p number now h = turned_starved p number c.args.self.now now h
