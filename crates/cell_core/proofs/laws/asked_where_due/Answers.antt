use Rattle.cell_core.proofs.AskedWhereDue.{save_due, stop_due, send_due}
use Rattle.cell_core.proofs.laws.asked_where_due.Goals as goal

pub returns-clause-saves : goal.returns-clause-saves
returns-clause-saves c = λ task event past settled on h. save_due task event past settled on h

pub returns-clause-stops : goal.returns-clause-stops
returns-clause-stops c = λ task event past cause on h. stop_due task event past cause on h

pub returns-clause-sends : goal.returns-clause-sends
returns-clause-sends c = λ task event past k on u w h. send_due task event past k on u w h
