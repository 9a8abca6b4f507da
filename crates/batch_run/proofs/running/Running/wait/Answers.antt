use Rattle.std.proofs.Common.{◌-◌, arith, sym, ◌∙◌}
use Rattle.std.proofs.lemmas.Bool.{false≢true}
use Rattle.batch_run.specs.Lines.{waits_of}
use Rattle.batch_run.specs.Owed.{after}
use Rattle.batch_run.specs.Owed.{none}
use Rattle.batch_run.specs.Stands.{AllStand, Outset, more_waits, served_by}
use Rattle.batch_run.proofs.CauseLemmas.{fits, wait_fault}
use Rattle.batch_run.proofs.KeptLemmas.{left_by}
use Rattle.batch_run.proofs.OweLemmas.{exits}
use Rattle.batch_run.proofs.running.Running.wait.Goals as goal

pub returns-in_err-tell_moments-in-Ok-clause-stands : goal.returns-in_err-tell_moments-in-Ok-clause-stands
returns-in_err-tell_moments-in-Ok-clause-stands g c = λ none_over taken unlooked asks start from all s.
    let m = waits_of c.args.self.now.lines - waits_of c.turn.new.self in
    let mid : Outset = more_waits m from in
    let turned = c.in-Ok.ensures.stands asks start from c.args.self.now.jobs.slots.items none_over taken unlooked s in
    fits asks start (served_by (after c.from_residual.result none) c.tell_moments.new.self.lines.connections from) m (waits_of c.args.self.now.lines - waits_of c.tell_moments.new.self.lines) (omega (arith, c.tell_moments.ensures.left.waits))
    (exits _ asks start mid none c.tell_moments.new.self.lines.connections c.from_residual.result c.from_residual.ensures.1
    (c.in_err-tell_moments-in-Ok.ensures.stands asks start mid turned))

pub returns-in_err-tell_moments-in-Ok-clause-left : goal.returns-in_err-tell_moments-in-Ok-clause-left
returns-in_err-tell_moments-in-Ok-clause-left g c = omega (arith, c.turn.ensures.left, c.tell_moments.ensures.left.waits)

pub read_all-requires-clause-sound : goal.read_all-requires-clause-sound
read_all-requires-clause-sound g c = c.tell_moments.ensures.left.sound c.turn.ensures.sound

pub returns-in_err-read_all-in-Ok-clause-stands : goal.returns-in_err-read_all-in-Ok-clause-stands
returns-in_err-read_all-in-Ok-clause-stands g c = λ none_over taken unlooked asks start from all s.
    let m = waits_of c.args.self.now.lines - waits_of c.turn.new.self in
    let mid : Outset = more_waits m from in
    let turned = c.in-Ok.ensures.stands asks start from c.args.self.now.jobs.slots.items none_over taken unlooked s in
    let told = c.in_ok-tell_moments-in-Ok.ensures.stands asks start mid turned in
    fits asks start (served_by (after c.from_residual-in_err-read_all-in-Ok.result none) c.read_all.new.self.lines.connections from) m (waits_of c.args.self.now.lines - waits_of c.read_all.new.self.lines) (omega (arith, c.tell_moments.ensures.left.waits, c.read_all.ensures.left))
    (exits _ asks start mid none c.read_all.new.self.lines.connections c.from_residual-in_err-read_all-in-Ok.result c.from_residual-in_err-read_all-in-Ok.ensures.1
    (c.in_err-read_all-in-Ok.ensures.stands c.in_ok-tell_moments-in-Ok.ensures.over asks start mid told))

pub returns-in_err-read_all-in-Ok-clause-left : goal.returns-in_err-read_all-in-Ok-clause-left
returns-in_err-read_all-in-Ok-clause-left g c = omega (arith, c.turn.ensures.left, c.tell_moments.ensures.left.waits, c.read_all.ensures.left)

pub returns-in_ok-read_all-in-Ok-clause-stands : goal.returns-in_ok-read_all-in-Ok-clause-stands
returns-in_ok-read_all-in-Ok-clause-stands g c = λ none_over taken unlooked asks start from all s.
    let m = waits_of c.args.self.now.lines - waits_of c.turn.new.self in
    let mid : Outset = more_waits m from in
    let turned = c.in-Ok.ensures.stands asks start from c.args.self.now.jobs.slots.items none_over taken unlooked s in
    let told = c.in_ok-tell_moments-in-Ok.ensures.stands asks start mid turned in
    fits asks start (served_by none c.read_all.new.self.lines.connections from) m (waits_of c.args.self.now.lines - waits_of c.read_all.new.self.lines) (omega (arith, c.tell_moments.ensures.left.waits, c.read_all.ensures.left))
    (c.in_ok-read_all-in-Ok.ensures.stands c.in_ok-tell_moments-in-Ok.ensures.over asks start mid told)

pub returns-in_ok-read_all-in-Ok-clause-left : goal.returns-in_ok-read_all-in-Ok-clause-left
returns-in_ok-read_all-in-Ok-clause-left g c = omega (arith, c.turn.ensures.left, c.tell_moments.ensures.left.waits, c.read_all.ensures.left)

pub returns-in_ok-read_all-in-Ok-clause-drained : goal.returns-in_ok-read_all-in-Ok-clause-drained
returns-in_ok-read_all-in-Ok-clause-drained g c = λ e. c.in_ok-read_all-in-Ok.ensures.drained

pub returns-in_ok-read_all-in-Ok-clause-sound : goal.returns-in_ok-read_all-in-Ok-clause-sound
returns-in_ok-read_all-in-Ok-clause-sound g c = λ e. c.in_ok-read_all-in-Ok.ensures.sound

pub returns-in_ok-read_all-in-Ok-clause-budget : goal.returns-in_ok-read_all-in-Ok-clause-budget
returns-in_ok-read_all-in-Ok-clause-budget g c = λ e.
    omega (arith, c.in-Ok.ensures.falls, c.turn.ensures.linked, c.read_all.ensures.left, c.read_all.ensures.linked, c.tell_moments.ensures.left.waits, c.tell_moments.ensures.left.linked)

pub returns-in_ok-read_all-in-Ok-clause-over : goal.returns-in_ok-read_all-in-Ok-clause-over
returns-in_ok-read_all-in-Ok-clause-over g c = λ e. c.in_ok-read_all-in-Ok.ensures.over c.in_ok-tell_moments-in-Ok.ensures.over

pub on_fault-requires : goal.on_fault-requires
on_fault-requires g c = left_by c.in-Err.fault c.in-Err.ensures.ends c.turn.ensures.sound

pub returns-in-Err-clause-stands : goal.returns-in-Err-clause-stands
returns-in-Err-clause-stands g c = λ none_over taken unlooked asks start from all s.
    let left = waits_of c.args.self.now.lines in
    let rest = waits_of c.turn.new.self in
    let mid : Outset = more_waits (left - rest) from in
    let turned : AllStand asks start (served_by none c.turn.new.self.connections mid) c.args.self.now.jobs.slots.items (g.W.Journal.journal c.turn.new.w) (g.W.Journal.counts c.turn.new.w) = c.in-Err.ensures.stands asks start from c.args.self.now.jobs.slots.items none_over taken unlooked s in
    fits asks start (served_by (after c.on_fault.result none) c.on_fault.new.self.lines.connections from) (left - rest) (left - waits_of c.on_fault.new.self.lines) (omega (arith, c.on_fault.ensures.left.waits))
    (c.on_fault.ensures.stands asks start mid
    (wait_fault c.in-Err.fault from (g.W.Journal.counts c.args.w.now) (g.W.Journal.counts c.turn.new.w) left rest s.grow all turned.waited c.in-Err.ensures.cause) turned)

pub returns-in-Err-clause-left : goal.returns-in-Err-clause-left
returns-in-Err-clause-left g c = omega (arith, c.turn.ensures.left, c.on_fault.ensures.left.waits)

pub returns-in-Err-clause-drained : goal.returns-in-Err-clause-drained
returns-in-Err-clause-drained g c = λ e. absurd (false≢true (sym c.in-Err.ensures.ends ∙ c.on_fault.ensures.goes e))

pub returns-in-Err-clause-budget : goal.returns-in-Err-clause-budget
returns-in-Err-clause-budget g c = λ e. absurd (false≢true (sym c.in-Err.ensures.ends ∙ c.on_fault.ensures.goes e))
