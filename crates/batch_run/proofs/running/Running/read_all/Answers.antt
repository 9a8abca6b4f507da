use Rattle.std.proofs.Common.{arith, refl, ◌∙◌}
use Rattle.batch_run.specs.Owed.{none}
use Rattle.batch_run.proofs.OweLemmas.{exits}
use Rattle.batch_run.proofs.running.Running.read_all.Goals as goal

pub loop-init : goal.loop-init
loop-init g c = record {
  left = refl;
  linked = omega arith;
  stands = λ n asks start from s. s;
  room = c.requires.room;
  sound = c.requires.sound;
  over = λ n. n;
}

pub loop-preserved : goal.loop-preserved
loop-preserved g c = record {
  left = c.read_one.ensures.left ∙ c.loop.invariant.left;
  linked = omega (arith, c.read_one.ensures.linked, c.loop.invariant.linked);
  stands = λ n asks start from s. c.in_ok-read_one.ensures.stands (c.loop.invariant.over n) asks start from (c.loop.invariant.stands n asks start from s);
  room = c.read_one.ensures.room;
  sound = c.in_ok-read_one.ensures.sound;
  over = λ n. c.in_ok-read_one.ensures.over (c.loop.invariant.over n);
}

pub returns-in_err-read_one-clause-stands : goal.returns-in_err-read_one-clause-stands
returns-in_err-read_one-clause-stands g c = λ n asks start from s.
    exits _ asks start from none c.read_one.new.self.lines.connections c.from_residual.result c.from_residual.ensures.1
    (c.in_err-read_one.ensures.stands (c.loop.invariant.over n) asks start from (c.loop.invariant.stands n asks start from s))

pub returns-in_err-read_one-clause-left : goal.returns-in_err-read_one-clause-left
returns-in_err-read_one-clause-left g c = c.read_one.ensures.left ∙ c.loop.invariant.left

pub returns-in_err-read_one-clause-linked : goal.returns-in_err-read_one-clause-linked
returns-in_err-read_one-clause-linked g c = omega (arith, c.read_one.ensures.linked, c.loop.invariant.linked)

pub returns-in-Done-clause-stands : goal.returns-in-Done-clause-stands
returns-in-Done-clause-stands g c = λ n asks start from s. c.in_ok-read_one.ensures.stands (c.loop.invariant.over n) asks start from (c.loop.invariant.stands n asks start from s)

pub returns-in-Done-clause-left : goal.returns-in-Done-clause-left
returns-in-Done-clause-left g c = c.read_one.ensures.left ∙ c.loop.invariant.left

pub returns-in-Done-clause-linked : goal.returns-in-Done-clause-linked
returns-in-Done-clause-linked g c = omega (arith, c.read_one.ensures.linked, c.loop.invariant.linked)

pub returns-in-Done-clause-over : goal.returns-in-Done-clause-over
returns-in-Done-clause-over g c = λ n. c.in_ok-read_one.ensures.over (c.loop.invariant.over n)
