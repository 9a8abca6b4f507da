use Rattle.std.proofs.Common.{◌-◌, arith}
use Rattle.batch_run.specs.Lines.{waits_of}
use Rattle.batch_run.specs.Owed.{after}
use Rattle.batch_run.specs.Owed.{none}
use Rattle.batch_run.specs.Stands.{served_by}
use Rattle.batch_run.proofs.CauseLemmas.{fits, rests}
use Rattle.batch_run.proofs.OweLemmas.{exits}
use Rattle.batch_run.proofs.running.Running.turn.Goals as goal

pub returns-in_err-put_out-clause-stands : goal.returns-in_err-put_out-clause-stands
returns-in_err-put_out-clause-stands g c = λ none_over asks start from all s.
    rests asks start (served_by (after c.from_residual.result none) c.put_out.new.self.lines.connections from) (waits_of c.args.self.now.lines - waits_of c.put_out.new.self.lines) (omega (arith, c.put_out.ensures.left))
    (exits _ asks start from none c.put_out.new.self.lines.connections c.from_residual.result c.from_residual.ensures.1
    (c.in_err-put_out.ensures.stands asks start from s))

pub returns-in_err-put_out-clause-left : goal.returns-in_err-put_out-clause-left
returns-in_err-put_out-clause-left g c = omega (arith, c.put_out.ensures.left)

pub returns-then-are_done-clause-stands : goal.returns-then-are_done-clause-stands
returns-then-are_done-clause-stands g c = λ none_over asks start from all s.
    rests asks start (served_by none c.put_out.new.self.lines.connections from) (waits_of c.args.self.now.lines - waits_of c.put_out.new.self.lines) (omega (arith, c.put_out.ensures.left))
    (c.in_ok-put_out.ensures.stands asks start from s)

pub returns-then-are_done-clause-left : goal.returns-then-are_done-clause-left
returns-then-are_done-clause-left g c = omega (arith, c.put_out.ensures.left)

pub returns-clause-stands : goal.returns-clause-stands
returns-clause-stands g c = λ none_over asks start from all s.
    fits asks start (served_by (after c.go_on.result none) c.go_on.new.self.lines.connections from) (waits_of c.put_out.new.self.lines - waits_of c.go_on.new.self.lines) (waits_of c.args.self.now.lines - waits_of c.go_on.new.self.lines) (omega (arith, c.put_out.ensures.left))
    (c.go_on.ensures.stands (c.in_ok-put_out.ensures.over none_over) c.in_ok-put_out.ensures.taken asks start from (omega (arith, all, c.put_out.ensures.left)) (c.in_ok-put_out.ensures.stands asks start from s))

pub returns-clause-left : goal.returns-clause-left
returns-clause-left g c = omega (arith, c.put_out.ensures.left, c.go_on.ensures.left)

pub returns-clause-budget : goal.returns-clause-budget
returns-clause-budget g c = λ e. let less = c.go_on.ensures.budget e in omega (arith, less, c.put_out.ensures.left, c.put_out.ensures.linked)
