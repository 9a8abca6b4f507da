use Rattle.std.proofs.Common.{◌-◌, arith, rules}
use Rattle.batch_run.specs.Lines.{waits_of}
use Rattle.batch_run.specs.Owed.{after, none}
use Rattle.batch_run.specs.Stands.{more_waits, served_by}
use Rattle.batch_run.proofs.CauseLemmas.{fits_then}
use Rattle.batch_run.proofs.OweLemmas.{exits}
use Rattle.batch_run.proofs.running.Running.run.Goals as goal

pub returns-in_err-turn-clause-stands : goal.returns-in_err-turn-clause-stands
returns-in_err-turn-clause-stands g c = λ n asks start from all s.
    let a = waits_of c.args.self.now.lines in
    let b = waits_of c.loop.self.lines in
    let e = waits_of c.turn.new.self.lines in
    fits_then asks start (served_by (after c.from_residual.result none) c.turn.new.self.lines.connections from) (a - b) (b - e) (a - e) (omega (arith, c.loop.invariant.left, c.turn.ensures.left))
    (exits _ asks start (more_waits (b - e) (more_waits (a - b) from)) none c.turn.new.self.lines.connections c.from_residual.result c.from_residual.ensures.1
    (c.in_err-turn.ensures.stands (c.loop.invariant.over n) asks start (more_waits (a - b) from) (omega (arith, all, c.loop.invariant.left)) (c.loop.invariant.stands n asks start from all s)))

pub returns-in_err-turn-clause-left : goal.returns-in_err-turn-clause-left
returns-in_err-turn-clause-left g c = omega (arith, c.loop.invariant.left, c.turn.ensures.left)

pub loop-preserved : goal.loop-preserved
loop-preserved g c = record {
  stands = λ n asks start from all s.
      let a = waits_of c.args.self.now.lines in
      let b = waits_of c.loop.self.lines in
      let e = waits_of c.turn.new.self.lines in
      fits_then asks start (served_by none c.turn.new.self.lines.connections from) (a - b) (b - e) (a - e) (omega (arith, c.loop.invariant.left, c.turn.ensures.left))
      (c.in_ok-turn.ensures.stands (c.loop.invariant.over n) asks start (more_waits (a - b) from) (omega (arith, all, c.loop.invariant.left)) (c.loop.invariant.stands n asks start from all s));
  over = λ n. search rules;
  left = omega (arith, c.loop.invariant.left, c.turn.ensures.left);
  drained = search rules;
  sound = search rules;
  room = search rules;
}

pub returns-clause-stands : goal.returns-clause-stands
returns-clause-stands g c = λ n asks start from all s.
    let a = waits_of c.args.self.now.lines in
    let b = waits_of c.loop.self.lines in
    let e = waits_of c.turn.new.self.lines in
    fits_then asks start (served_by none c.turn.new.self.lines.connections from) (a - b) (b - e) (a - e) (omega (arith, c.loop.invariant.left, c.turn.ensures.left))
    (c.in_ok-turn.ensures.stands (c.loop.invariant.over n) asks start (more_waits (a - b) from) (omega (arith, all, c.loop.invariant.left)) (c.loop.invariant.stands n asks start from all s))

pub returns-clause-left : goal.returns-clause-left
returns-clause-left g c = omega (arith, c.loop.invariant.left, c.turn.ensures.left)
