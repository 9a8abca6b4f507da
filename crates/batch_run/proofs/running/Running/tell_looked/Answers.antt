use Rattle.std.proofs.Common.{arith, refl, ◌∙◌}
use Rattle.batch_run.specs.Owed.{none}
use Rattle.batch_run.specs.Stands.{served_by}
use Rattle.batch_run.proofs.KeptLemmas.{kept_start, kept_then}
use Rattle.batch_run.proofs.OweLemmas.{exits, forgets_lines}
use Rattle.batch_run.proofs.SlotLemmas.{none_all, none_below, over_more}
use Rattle.batch_run.proofs.running.Running.tell_looked.Goals as goal

pub loop-number-init : goal.loop-number-init
loop-number-init g c = record {
  stands = λ asks start from s. s;
  left = kept_start c.args.self.now.lines.connections;
  over = none_below c.args.self.now.jobs.slots.items;
  buf = refl;
}

pub loop-number-preserved : goal.loop-number-preserved
loop-number-preserved g c = record {
  stands = λ asks start from s.
      c.in_ok-leave_where.ensures.stands none refl refl asks start from
      (c.look_where.ensures.stands asks start (served_by none c.loop-number.self.lines.connections from) (c.loop-number.invariant.stands asks start from s));
  left = kept_then c.loop-number.invariant.left c.leave_where.ensures.left;
  over = over_more (λ k ne. c.leave_where.ensures.others k ne ∙ c.look_where.ensures.others k ne) c.in_ok-leave_where.ensures.over c.loop-number.invariant.over;
  buf = c.leave_where.ensures.buf ∙ c.loop-number.invariant.buf;
}

pub returns-in_err-look_where-clause-stands : goal.returns-in_err-look_where-clause-stands
returns-in_err-look_where-clause-stands g c = λ asks start from s.
    exits _ asks start from none c.loop-number.self.lines.connections c.from_residual.result c.from_residual.ensures.1
    (forgets_lines asks start from none c.loop-number.self.lines.connections
    (c.look_where.ensures.stands asks start (served_by none c.loop-number.self.lines.connections from) (c.loop-number.invariant.stands asks start from s)))

pub returns-in_err-look_where-clause-left : goal.returns-in_err-look_where-clause-left
returns-in_err-look_where-clause-left g c = c.loop-number.invariant.left

pub returns-in_err-leave_where-clause-stands : goal.returns-in_err-leave_where-clause-stands
returns-in_err-leave_where-clause-stands g c = λ asks start from s.
    exits _ asks start from none c.leave_where.new.self.lines.connections c.from_residual-in_err-leave_where.result c.from_residual-in_err-leave_where.ensures.1
    (c.in_err-leave_where.ensures.stands none refl refl asks start from
    (c.look_where.ensures.stands asks start (served_by none c.loop-number.self.lines.connections from) (c.loop-number.invariant.stands asks start from s)))

pub returns-in_err-leave_where-clause-left : goal.returns-in_err-leave_where-clause-left
returns-in_err-leave_where-clause-left g c = kept_then c.loop-number.invariant.left c.leave_where.ensures.left

pub returns-clause-stands : goal.returns-clause-stands
returns-clause-stands g c = c.loop-number.invariant.stands

pub returns-clause-left : goal.returns-clause-left
returns-clause-left g c = c.loop-number.invariant.left

pub returns-clause-over : goal.returns-clause-over
returns-clause-over g c = none_all {n = c.loop-number.number} (omega (arith, c.loop-number.self.jobs.few)) c.loop-number.invariant.over
