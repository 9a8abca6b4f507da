use Rattle.std.proofs.Common.{refl, ◌∙◌}
use Rattle.batch_run.specs.Owed.{none}
use Rattle.batch_run.proofs.KeptLemmas.{kept_start, kept_then}
use Rattle.batch_run.proofs.SlotLemmas.{over_start, over_then}
use Rattle.batch_run.proofs.running.Running.queue_all.Goals as goal

pub loop-number-init : goal.loop-number-init
loop-number-init c = record {
  left = kept_start c.args.self.now.lines.connections;
  stands = λ asks start from journal counts s. s;
  over = over_start c.args.self.now.jobs.slots.items;
  buf = refl;
}

pub loop-number-preserved : goal.loop-number-preserved
loop-number-preserved c = record {
  left = kept_then c.loop-number.invariant.left c.queue_job.ensures.left.kept;
  stands = λ asks start from journal counts s. c.queue_job.ensures.stands asks start from none journal counts refl (c.loop-number.invariant.stands asks start from journal counts s);
  over = over_then c.loop-number.invariant.over c.queue_job.ensures.over;
  buf = c.queue_job.ensures.buf ∙ c.loop-number.invariant.buf;
}

pub returns-in_err-queue_job-clause-stands : goal.returns-in_err-queue_job-clause-stands
returns-in_err-queue_job-clause-stands c = λ asks start from journal counts s.
    c.queue_job.ensures.stands asks start from none journal counts refl (c.loop-number.invariant.stands asks start from journal counts s)

pub returns-in_err-queue_job-clause-over : goal.returns-in_err-queue_job-clause-over
returns-in_err-queue_job-clause-over c = over_then c.loop-number.invariant.over c.queue_job.ensures.over

pub returns-in_err-queue_job-clause-left : goal.returns-in_err-queue_job-clause-left
returns-in_err-queue_job-clause-left c = kept_then c.loop-number.invariant.left c.queue_job.ensures.left.kept

pub returns-clause-left : goal.returns-clause-left
returns-clause-left c = c.loop-number.invariant.left
