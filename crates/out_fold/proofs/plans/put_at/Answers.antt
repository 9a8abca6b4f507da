use Rattle.std.proofs.Common.{◌∙◌, ap}
use Rattle.std.specs.List.{insert, remove}
use Rattle.out_fold.proofs.PlanLemmas.{sorted-insert, in-insert, taken-out}
use Rattle.out_fold.proofs.plans.put_at.Goals as goal

pub returns-clause-sorted : goal.returns-clause-sorted
returns-clause-sorted c =
    sorted-insert c.args.cell c.args.plan.now c.insert.new.self c.requires.absent
    (c.in_ok-insert.ensures.ok ∙ ap (λ k. insert c.args.plan.now k c.args.cell) c.requires.lead) c.requires.sorted

pub returns-clause-members : goal.returns-clause-members
returns-clause-members c = λ n.
    in-insert c.args.cell c.args.plan.now c.insert.new.self (c.in_ok-insert.ensures.ok ∙ ap (λ k. insert c.args.plan.now k c.args.cell) c.requires.lead) n

pub returns-clause-before : goal.returns-clause-before
returns-clause-before c = ap (λ xs. remove xs c.args.at) c.in_ok-insert.ensures.ok ∙ taken-out c.args.plan.now c.args.at c.args.cell c.requires.within
