use Rattle.std.proofs.Common.{arith, refl, ◌∙◌}
use Rattle.batch_run.specs.Owed.{none}
use Rattle.batch_run.proofs.KeptLemmas.{kept_start, kept_then}
use Rattle.batch_run.proofs.SlotLemmas.{ended_all, ended_start}
use Rattle.batch_run.proofs.OweLemmas.{exits}
use Rattle.batch_run.proofs.running.Running.leave_all.Goals as goal

pub loop-number-init : goal.loop-number-init
loop-number-init g c = record {
  stands = λ asks start from s. s;
  left = kept_start c.args.self.now.lines.connections;
  ended = ended_start c.args.self.now.jobs.slots.items;
  size = refl;
  buf = refl;
}

pub loop-number-preserved : goal.loop-number-preserved
loop-number-preserved g c = record {
  stands = λ asks start from s. c.in_ok-leave.ensures.stands none refl refl asks start from (c.loop-number.invariant.stands asks start from s);
  left = kept_then c.loop-number.invariant.left c.leave.ensures.left.kept;
  ended = c.in_ok-leave.ensures.ended c.loop-number.invariant.ended;
  size = c.leave.ensures.size ∙ c.loop-number.invariant.size;
  buf = c.leave.ensures.buf ∙ c.loop-number.invariant.buf;
}

pub returns-in_err-leave-clause-stands : goal.returns-in_err-leave-clause-stands
returns-in_err-leave-clause-stands g c = λ asks start from s.
    exits _ asks start from none c.leave.new.self.lines.connections c.from_residual.result c.from_residual.ensures.1
    (c.in_err-leave.ensures.stands none refl refl asks start from (c.loop-number.invariant.stands asks start from s))

pub returns-in_err-leave-clause-left : goal.returns-in_err-leave-clause-left
returns-in_err-leave-clause-left g c = kept_then c.loop-number.invariant.left c.leave.ensures.left.kept

pub returns-clause-stands : goal.returns-clause-stands
returns-clause-stands g c = c.loop-number.invariant.stands

pub returns-clause-left : goal.returns-clause-left
returns-clause-left g c = c.loop-number.invariant.left

pub returns-clause-ended : goal.returns-clause-ended
returns-clause-ended g c = ended_all (omega (arith, c.loop-number.invariant.size, c.len-number-end.ensures.is)) c.loop-number.invariant.ended
