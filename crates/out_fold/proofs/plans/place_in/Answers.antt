use Rattle.out_fold.proofs.PlanLemmas.{found-in, absent-in, lead-in}
use Rattle.out_fold.proofs.plans.place_in.Goals as goal

pub returns-clause-found : goal.returns-clause-found
returns-clause-found c = found-in c.args.plan.now c.args.cell c.binary_search.result c.requires c.binary_search.ensures.position

pub returns-clause-absent : goal.returns-clause-absent
returns-clause-absent c = absent-in c.args.plan.now c.args.cell c.binary_search.result c.requires c.binary_search.ensures.position

pub returns-clause-lead : goal.returns-clause-lead
returns-clause-lead c = lead-in c.args.plan.now c.args.cell c.binary_search.result c.requires c.binary_search.ensures.position
