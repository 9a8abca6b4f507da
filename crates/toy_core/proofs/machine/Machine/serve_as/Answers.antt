use Rattle.toy_core.proofs.machine.Machine.serve_as.Goals as goal

pub returns-in-Interrupt-clause-stands : goal.returns-in-Interrupt-clause-stands
returns-in-Interrupt-clause-stands c = rw c.in-Interrupt.is c.interrupt.ensures.stands

pub returns-in-Shutdown-clause-stands : goal.returns-in-Shutdown-clause-stands
returns-in-Shutdown-clause-stands c = rw c.in-Shutdown.is c.shut_down.ensures.stands
