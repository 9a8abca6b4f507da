use Rattle.nb_model.proofs.PlanLaws.{increases, below}
use Rattle.nb_model.proofs.laws.plan_in_order.Goals as goal

pub returns-clause-increasing : goal.returns-clause-increasing
returns-clause-increasing c n = increases 0 n.cells

pub returns-clause-below : goal.returns-clause-below
returns-clause-below c n = below n.cells
