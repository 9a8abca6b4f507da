use Rattle.std.proofs.Common.{refl, ◌∙◌}
use Rattle.batch_run.proofs.KeptLemmas.{left_start, left_then}
use Rattle.batch_run.proofs.SlotLemmas.{changes_start, changes_then, over_start, over_then}
use Rattle.batch_run.proofs.running.Running.queue_job.Goals as goal

pub loop-chan-init : goal.loop-chan-init
loop-chan-init c = record {
  left = left_start c.args.job c.args.self.now.lines.connections;
  linked = λ p. refl;
  at = changes_start c.args.job c.args.self.now.jobs.slots.items;
  stands = λ asks start from o journal counts bare s. s;
  over = over_start c.args.self.now.jobs.slots.items;
  buf = refl;
}

pub loop-chan-preserved : goal.loop-chan-preserved
loop-chan-preserved c = record {
  left = left_then c.loop-chan.invariant.left c.queue_on.ensures.left;
  linked = λ p. c.queue_on.ensures.linked p ∙ c.loop-chan.invariant.linked p;
  at = changes_then c.loop-chan.invariant.at c.queue_on.ensures.at;
  stands = λ asks start from o journal counts bare s. c.queue_on.ensures.stands asks start from o journal counts bare (c.loop-chan.invariant.stands asks start from o journal counts bare s);
  over = over_then c.loop-chan.invariant.over c.queue_on.ensures.over;
  buf = c.queue_on.ensures.buf ∙ c.loop-chan.invariant.buf;
}

pub returns-in_err-queue_on-clause-stands : goal.returns-in_err-queue_on-clause-stands
returns-in_err-queue_on-clause-stands c = λ asks start from o journal counts bare s.
    c.queue_on.ensures.stands asks start from o journal counts bare (c.loop-chan.invariant.stands asks start from o journal counts bare s)

pub returns-in_err-queue_on-clause-over : goal.returns-in_err-queue_on-clause-over
returns-in_err-queue_on-clause-over c = over_then c.loop-chan.invariant.over c.queue_on.ensures.over

pub returns-in_err-queue_on-clause-left : goal.returns-in_err-queue_on-clause-left
returns-in_err-queue_on-clause-left c = left_then c.loop-chan.invariant.left c.queue_on.ensures.left

pub returns-in_err-queue_on-clause-linked : goal.returns-in_err-queue_on-clause-linked
returns-in_err-queue_on-clause-linked c = λ p. c.queue_on.ensures.linked p ∙ c.loop-chan.invariant.linked p

pub returns-in_err-queue_on-clause-at : goal.returns-in_err-queue_on-clause-at
returns-in_err-queue_on-clause-at c = changes_then c.loop-chan.invariant.at c.queue_on.ensures.at

pub returns-clause-left : goal.returns-clause-left
returns-clause-left c = c.loop-chan.invariant.left

pub returns-clause-linked : goal.returns-clause-linked
returns-clause-linked c = c.loop-chan.invariant.linked

pub returns-clause-at : goal.returns-clause-at
returns-clause-at c = c.loop-chan.invariant.at
