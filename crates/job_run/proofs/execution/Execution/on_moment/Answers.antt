use Rattle.std.proofs.Common.{ap}
use Rattle.cell_core.specs.StandsFor.{task_of}
use Rattle.world.proofs.MomentsLemmas.{told_as, told_then}
use Rattle.job_run.proofs.ClockLemmas.{has_turned, turned_goes}
use Rattle.job_run.proofs.CountLemmas.{later_counts}
use Rattle.job_run.proofs.StepLemmas.{goes_then, goes_told}
use Rattle.job_run.proofs.execution.Execution.on_moment.Goals as goal

pub returns-in-Ok-clause-goes : goal.returns-in-Ok-clause-goes
returns-in-Ok-clause-goes g c =
    let x = c.args.self.now in
    let t = c.turn_clock in
    goes_told t.ensures.book (ap task_of t.ensures.core) t.ensures.terms (λ n i. later_counts x t.new.self n t.ensures.core t.ensures.later t.ensures.broken i)
    (goes_then c.in-Ok.ensures.goes c.lose_or_ask.ensures.goes)

pub returns-in-Err-clause-goes : goal.returns-in-Err-clause-goes
returns-in-Err-clause-goes g c =
    let x = c.args.self.now in
    let t = c.turn_clock in
    goes_told t.ensures.book (ap task_of t.ensures.core) t.ensures.terms (λ n i. later_counts x t.new.self n t.ensures.core t.ensures.later t.ensures.broken i) c.in-Err.ensures.goes

pub returns-in-Ok-clause-stands : goal.returns-in-Ok-clause-stands
returns-in-Ok-clause-stands g c p number =
    let t = c.turn_clock in
    told_then (c.in-Ok.ensures.passes p number) (c.lose_or_ask.ensures.stands p number)
    (λ x y z pass so h.
    so (has_turned p number c.args.self.now t.new.self c.args.ms x t.ensures.rest t.ensures.turns h c.hear_clock.new.self y pass c.in-Ok.ensures.knows c.in-Ok.ensures.goes.step.calm))

pub returns-in-Err-clause-stands : goal.returns-in-Err-clause-stands
returns-in-Err-clause-stands g c p number =
    let t = c.turn_clock in
    told_as (c.in-Err.ensures.passes p number)
    (λ x z pass h. absurd (turned_goes p number c.args.self.now t.new.self c.args.ms x t.ensures.rest t.ensures.turns h c.hear_clock.new.self c.in-Err.end z pass))
