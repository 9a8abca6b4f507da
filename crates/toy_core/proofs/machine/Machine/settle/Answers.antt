use Rattle.std.proofs.Common.{subst, sym}
use Rattle.toy_core.specs.declared.agenda.Agenda.{Agenda}
use Rattle.toy_core.specs.Dues.{IsSettled}
use Rattle.toy_core.proofs.Keeping.{keeps_sent}
use Rattle.toy_core.proofs.Settling.{passed_due, settled_due, settled_is}
use Rattle.toy_core.proofs.machine.Machine.settle.Goals as goal

pub returns-in-Err-clause-keeps : goal.returns-in-Err-clause-keeps
returns-in-Err-clause-keeps c = keeps_sent _ _ _ c.in-Err.ensures.part

pub returns-in-Err-clause-due : goal.returns-in-Err-clause-due
returns-in-Err-clause-due c =
    passed_due c.args.now c.in-Err.done c.args.self.now _ _ c.acts_by-acts.ensures c.in-Err.ensures.fewer c.pass.ensures.rest c.pass.ensures.end
    c.in-Err.ensures.part

pub returns-clause-keeps : goal.returns-clause-keeps
returns-clause-keeps c = keeps_sent _ _ _ c.in_default.ensures.sends

pub returns-clause-due : goal.returns-clause-due
returns-clause-due c = settled_due c.args.now c.args.self.now _ _ c.acts_by-acts.ensures c.settle.ensures c.in_default.ensures.sends

pub returns-clause-settled : goal.returns-clause-settled
returns-clause-settled c = subst (λ (a : Agenda). IsSettled c.args.now a) (sym c.settle.ensures) (settled_is c.args.now c.args.self.now.kernel.agenda)
