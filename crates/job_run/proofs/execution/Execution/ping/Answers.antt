use Rattle.job_run.proofs.ClockLemmas.{pinged_stands}
use Rattle.job_run.proofs.execution.Execution.ping.Goals as goal

pub returns-then-not-is_due-clause-stands : goal.returns-then-not-is_due-clause-stands
returns-then-not-is_due-clause-stands c p number now s = s

pub returns-clause-stands : goal.returns-clause-stands
returns-clause-stands c p number now s =
    pinged_stands p number c.args.self.now now c.send.new.self c.on_ping.new.self _ c.send.ensures.others c.send.ensures.role c.in_ok-send.ensures.stands s
