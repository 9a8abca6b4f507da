use Rattle.toy_core.proofs.Settling.{stays_as, stays_kept}
use Rattle.toy_core.proofs.machine.Machine.take.Goals as goal

pub returns-in_err-settle-clause-due : goal.returns-in_err-settle-clause-due
returns-in_err-settle-clause-due c = stays_as _ _ _ c.settle.ensures.due

pub returns-in_err-take_settled-clause-due : goal.returns-in_err-take_settled-clause-due
returns-in_err-take_settled-clause-due c =
    stays_kept c.args.now c.args.self.now c.settle.new.self _ c.settle.ensures.due c.in_ok-settle.ensures.settled c.take_settled.ensures.keeps
    c.take_settled.ensures.ended

pub returns-clause-stands : goal.returns-clause-stands
returns-clause-stands c = λ s a. c.in_ok-take_settled.ensures.stands _ (c.in_ok-settle.ensures.stands s a)

pub returns-clause-due : goal.returns-clause-due
returns-clause-due c =
    stays_kept c.args.now c.args.self.now c.settle.new.self _ c.settle.ensures.due c.in_ok-settle.ensures.settled c.take_settled.ensures.keeps
    c.take_settled.ensures.ended
