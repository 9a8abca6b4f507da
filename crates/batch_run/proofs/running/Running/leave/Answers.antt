use Rattle.std.proofs.Common.{arith, ◌∙◌}
use Rattle.batch_run.specs.Stands.{owing, served_by}
use Rattle.batch_run.proofs.KeptLemmas.{but_left, left_then}
use Rattle.batch_run.proofs.OweLemmas.{exits, forgets_lines}
use Rattle.batch_run.proofs.SlotLemmas.{ended_others}
use Rattle.batch_run.proofs.running.Running.leave.Goals as goal

pub returns-in_err-queue_job-clause-stands : goal.returns-in_err-queue_job-clause-stands
returns-in_err-queue_job-clause-stands g c = λ o waits bare asks start from s.
    exits _ asks start from o c.queue_job.new.self.lines.connections c.from_residual.result c.from_residual.ensures.1
    (forgets_lines asks start from o c.queue_job.new.self.lines.connections (c.queue_job.ensures.stands asks start from o (g.W.Journal.journal c.args.w.now) (g.W.Journal.counts c.args.w.now) bare s))

pub returns-in_err-queue_job-clause-others : goal.returns-in_err-queue_job-clause-others
returns-in_err-queue_job-clause-others g c = c.queue_job.ensures.at.others

pub returns-in_err-queue_job-clause-size : goal.returns-in_err-queue_job-clause-size
returns-in_err-queue_job-clause-size g c = c.queue_job.ensures.at.size

pub returns-clause-stands : goal.returns-clause-stands
returns-clause-stands g c = λ o waits bare asks start from s.
    c.finish.ensures.stands asks start (served_by o c.leave.new.self.connections from) waits c.leave.ensures.closed
    (c.leave.ensures.stands asks start (owing o from) c.queue_job.new.self.jobs.slots.items waits (c.queue_job.ensures.stands asks start from o (g.W.Journal.journal c.args.w.now) (g.W.Journal.counts c.args.w.now) bare s))

pub returns-clause-gone : goal.returns-clause-gone
returns-clause-gone g c = c.finish.ensures.gone

pub returns-clause-left : goal.returns-clause-left
returns-clause-left g c = left_then c.queue_job.ensures.left c.leave.ensures.left

pub returns-clause-others : goal.returns-clause-others
returns-clause-others g c = λ k ne. c.finish.ensures.others k ne ∙ c.queue_job.ensures.at.others k ne

pub returns-clause-ended : goal.returns-clause-ended
returns-clause-ended g c = λ b. c.finish.ensures.ended (ended_others c.queue_job.ensures.at.others b)

pub returns-clause-over : goal.returns-clause-over
returns-clause-over g c = c.finish.ensures.over

pub returns-clause-said : goal.returns-clause-said
returns-clause-said g c = λ ran. c.finish.ensures.said (c.queue_job.ensures.at.runs ∙ ran)

pub returns-clause-size : goal.returns-clause-size
returns-clause-size g c = c.finish.ensures.size ∙ c.queue_job.ensures.at.size

pub returns-clause-sound : goal.returns-clause-sound
returns-clause-sound g c = λ but. c.leave.ensures.sound (but_left c.queue_job.ensures.left.only but)

pub returns-clause-linked : goal.returns-clause-linked
returns-clause-linked g c = λ broken.
    let less = c.leave.ensures.linked broken.conn broken.own (c.queue_job.ensures.linked _ ∙ broken.begun) in
    omega (arith, less, c.queue_job.ensures.left.kept.linked)
