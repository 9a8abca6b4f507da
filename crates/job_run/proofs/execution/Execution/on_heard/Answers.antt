use Rattle.world.proofs.MomentsLemmas.{told_as, told_then}
use Rattle.job_run.specs.Heard.{arrivals_of}
use Rattle.job_run.proofs.MessageLemmas.{uses_all_or_ends}
use Rattle.job_run.proofs.StepLemmas.{goes_then}
use Rattle.job_run.proofs.execution.Execution.on_heard.Goals as goal

pub returns-in-Ok-clause-goes : goal.returns-in-Ok-clause-goes
returns-in-Ok-clause-goes g c = goes_then c.in-Ok.ensures.goes c.on_messages.ensures.goes

pub returns-in-Ok-clause-stands : goal.returns-in-Ok-clause-stands
returns-in-Ok-clause-stands g c p number =
    let ms = arrivals_of c.args.messages in
    told_then (c.in-Ok.ensures.uses p number c.args.chan ms) (c.on_messages.ensures.uses p number)
    (λ x y z first then h. uses_all_or_ends p number c.on_messages.new.self c.on_messages.result c.args.self.now.sent c.args.chan ms z (then (first h)))

pub returns-in-Err-clause-stands : goal.returns-in-Err-clause-stands
returns-in-Err-clause-stands g c p number = told_as (c.in-Err.ensures.uses p number c.args.chan (arrivals_of c.args.messages)) (λ x y first h. first h)
