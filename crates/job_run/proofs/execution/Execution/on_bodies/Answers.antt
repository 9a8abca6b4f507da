use Rattle.std.proofs.Common.{ap}
use Rattle.job_run.specs.declared.execution.Execution.{Execution}
use Rattle.job_run.proofs.ListenLemmas.{listened_holds, listened_still}
use Rattle.job_run.proofs.StepLemmas.{goes_kept, goes_starved}
use Rattle.world.proofs.MomentsLemmas.{told_as, told_start}
use Rattle.job_run.proofs.PieceLemmas.{fed_ends, heard_on}
use Rattle.job_run.proofs.execution.Execution.on_bodies.Goals as goal

pub returns-in-Ok-clause-goes : goal.returns-in-Ok-clause-goes
returns-in-Ok-clause-goes g c =
    let l = c.hear-heard.ensures.listens in
    goes_kept (ap (λ (e : Execution). e.book) l) (listened_still c.args.self.now c.hear-heard.new.self l) c.on_heard.ensures.goes

pub returns-in-Err-clause-goes : goal.returns-in-Err-clause-goes
returns-in-Err-clause-goes g c =
    let l = c.hear-heard.ensures.listens in
    goes_kept (ap (λ (e : Execution). e.book) l) (listened_still c.args.self.now c.hear-heard.new.self l) (goes_starved (listened_holds c.args.self.now c.hear-heard.new.self l c.requires.holds))

pub on_heard-requires-clause-holds : goal.on_heard-requires-clause-holds
on_heard-requires-clause-holds g c = listened_holds c.args.self.now c.hear-heard.new.self c.hear-heard.ensures.listens c.requires.holds

pub returns-in-Ok-clause-stands : goal.returns-in-Ok-clause-stands
returns-in-Ok-clause-stands g c p number =
    let h = c.hear-heard in
    told_as (c.on_heard.ensures.stands p number)
    (λ before after so fed.
    so (heard_on p number c.args.self.now h.new.self c.args.chan c.args.bodies c.in-Ok.messages before h.ensures.listens fed c.in-Ok.ensures.heard))

pub returns-in-Err-clause-stands : goal.returns-in-Err-clause-stands
returns-in-Err-clause-stands g c p number = told_start (λ now fed. fed_ends p number c.args.self.now c.args.chan c.args.bodies now fed)
