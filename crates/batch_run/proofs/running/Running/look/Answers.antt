use Rattle.std.proofs.Common.{◌-◌, arith}
use Rattle.batch_run.specs.Lines.{waits_of}
use Rattle.batch_run.specs.Owed.{after}
use Rattle.batch_run.specs.Owed.{none}
use Rattle.batch_run.specs.Stands.{AllStand, Outset, more_waits, served_by}
use Rattle.batch_run.proofs.CauseLemmas.{fits, wait_fault}
use Rattle.batch_run.proofs.SlotLemmas.{none_same}
use Rattle.batch_run.proofs.OweLemmas.{exits}
use Rattle.batch_run.proofs.running.Running.look.Goals as goal

pub returns-in_err-read_all-in-Ok-clause-stands : goal.returns-in_err-read_all-in-Ok-clause-stands
returns-in_err-read_all-in-Ok-clause-stands g c = λ none_over taken asks start from all s.
    let m = waits_of c.args.self.now.lines - waits_of c.look.new.self in
    let mid : Outset = more_waits m from in
    let over = none_same c.on_waited.ensures.over (none_same c.on_ends.ensures.over none_over) in
    let told = c.on_waited.ensures.stands asks start (served_by none c.look.new.self.connections mid) (g.W.Journal.journal c.look.new.w) (g.W.Journal.counts c.look.new.w)
    (c.on_ends.ensures.stands asks start (served_by none c.look.new.self.connections mid) (g.W.Journal.journal c.look.new.w) (g.W.Journal.counts c.look.new.w) (c.look.ensures.stands asks start from c.args.self.now.jobs.slots.items s)) in
    fits asks start (served_by (after c.from_residual.result none) c.read_all.new.self.lines.connections from) m (waits_of c.args.self.now.lines - waits_of c.read_all.new.self.lines) (omega (arith, c.read_all.ensures.left))
    (exits _ asks start mid none c.read_all.new.self.lines.connections c.from_residual.result c.from_residual.ensures.1
    (c.in_err-read_all-in-Ok.ensures.stands over asks start mid told))

pub returns-in_err-read_all-in-Ok-clause-left : goal.returns-in_err-read_all-in-Ok-clause-left
returns-in_err-read_all-in-Ok-clause-left g c = omega (arith, c.look.ensures.left, c.read_all.ensures.left)

pub returns-in_err-tell_looked-in-Ok-clause-stands : goal.returns-in_err-tell_looked-in-Ok-clause-stands
returns-in_err-tell_looked-in-Ok-clause-stands g c = λ none_over taken asks start from all s.
    let m = waits_of c.args.self.now.lines - waits_of c.look.new.self in
    let mid : Outset = more_waits m from in
    let over = none_same c.on_waited.ensures.over (none_same c.on_ends.ensures.over none_over) in
    let told = c.on_waited.ensures.stands asks start (served_by none c.look.new.self.connections mid) (g.W.Journal.journal c.look.new.w) (g.W.Journal.counts c.look.new.w)
    (c.on_ends.ensures.stands asks start (served_by none c.look.new.self.connections mid) (g.W.Journal.journal c.look.new.w) (g.W.Journal.counts c.look.new.w) (c.look.ensures.stands asks start from c.args.self.now.jobs.slots.items s)) in
    fits asks start (served_by (after c.from_residual-in_err-tell_looked-in-Ok.result none) c.tell_looked.new.self.lines.connections from) m (waits_of c.args.self.now.lines - waits_of c.tell_looked.new.self.lines) (omega (arith, c.read_all.ensures.left, c.tell_looked.ensures.left.waits))
    (exits _ asks start mid none c.tell_looked.new.self.lines.connections c.from_residual-in_err-tell_looked-in-Ok.result c.from_residual-in_err-tell_looked-in-Ok.ensures.1
    (c.in_err-tell_looked-in-Ok.ensures.stands asks start mid (c.in_ok-read_all-in-Ok.ensures.stands over asks start mid told)))

pub returns-in_err-tell_looked-in-Ok-clause-left : goal.returns-in_err-tell_looked-in-Ok-clause-left
returns-in_err-tell_looked-in-Ok-clause-left g c = omega (arith, c.look.ensures.left, c.read_all.ensures.left, c.tell_looked.ensures.left.waits)

pub returns-in_ok-tell_looked-in-Ok-clause-stands : goal.returns-in_ok-tell_looked-in-Ok-clause-stands
returns-in_ok-tell_looked-in-Ok-clause-stands g c = λ none_over taken asks start from all s.
    let m = waits_of c.args.self.now.lines - waits_of c.look.new.self in
    let mid : Outset = more_waits m from in
    let over = none_same c.on_waited.ensures.over (none_same c.on_ends.ensures.over none_over) in
    let told = c.on_waited.ensures.stands asks start (served_by none c.look.new.self.connections mid) (g.W.Journal.journal c.look.new.w) (g.W.Journal.counts c.look.new.w)
    (c.on_ends.ensures.stands asks start (served_by none c.look.new.self.connections mid) (g.W.Journal.journal c.look.new.w) (g.W.Journal.counts c.look.new.w) (c.look.ensures.stands asks start from c.args.self.now.jobs.slots.items s)) in
    fits asks start (served_by none c.tell_looked.new.self.lines.connections from) m (waits_of c.args.self.now.lines - waits_of c.tell_looked.new.self.lines) (omega (arith, c.read_all.ensures.left, c.tell_looked.ensures.left.waits))
    (c.in_ok-tell_looked-in-Ok.ensures.stands asks start mid (c.in_ok-read_all-in-Ok.ensures.stands over asks start mid told))

pub returns-in_ok-tell_looked-in-Ok-clause-left : goal.returns-in_ok-tell_looked-in-Ok-clause-left
returns-in_ok-tell_looked-in-Ok-clause-left g c = omega (arith, c.look.ensures.left, c.read_all.ensures.left, c.tell_looked.ensures.left.waits)

pub returns-in_ok-tell_looked-in-Ok-clause-drained : goal.returns-in_ok-tell_looked-in-Ok-clause-drained
returns-in_ok-tell_looked-in-Ok-clause-drained g c = λ e. c.tell_looked.ensures.left.drained c.in_ok-read_all-in-Ok.ensures.drained

pub returns-in_ok-tell_looked-in-Ok-clause-sound : goal.returns-in_ok-tell_looked-in-Ok-clause-sound
returns-in_ok-tell_looked-in-Ok-clause-sound g c = λ e. c.tell_looked.ensures.left.sound c.in_ok-read_all-in-Ok.ensures.sound

pub returns-in_ok-tell_looked-in-Ok-clause-budget : goal.returns-in_ok-tell_looked-in-Ok-clause-budget
returns-in_ok-tell_looked-in-Ok-clause-budget g c = λ e.
    omega (arith, c.in-Ok.ensures.falls, c.look.ensures.linked, c.read_all.ensures.left, c.read_all.ensures.linked, c.tell_looked.ensures.left.waits, c.tell_looked.ensures.left.linked)

pub returns-in_ok-tell_looked-in-Ok-clause-over : goal.returns-in_ok-tell_looked-in-Ok-clause-over
returns-in_ok-tell_looked-in-Ok-clause-over g c = λ e. c.in_ok-tell_looked-in-Ok.ensures.over

pub on_fault-requires : goal.on_fault-requires
on_fault-requires g c = c.in-Err.ensures.by

pub returns-in-Err-clause-stands : goal.returns-in-Err-clause-stands
returns-in-Err-clause-stands g c = λ none_over taken asks start from all s.
    let left = waits_of c.args.self.now.lines in
    let rest = waits_of c.look.new.self in
    let mid : Outset = more_waits (left - rest) from in
    let looked : AllStand asks start (served_by none c.look.new.self.connections mid) c.args.self.now.jobs.slots.items (g.W.Journal.journal c.look.new.w) (g.W.Journal.counts c.look.new.w) = c.look.ensures.stands asks start from c.args.self.now.jobs.slots.items s in
    fits asks start (served_by (after c.on_fault.result none) c.on_fault.new.self.lines.connections from) (left - rest) (left - waits_of c.on_fault.new.self.lines) (omega (arith, c.on_fault.ensures.left.waits))
    (c.on_fault.ensures.stands asks start mid
    (wait_fault c.in-Err.fault from (g.W.Journal.counts c.args.w.now) (g.W.Journal.counts c.look.new.w) left rest s.grow all looked.waited c.in-Err.ensures.cause) looked)

pub returns-in-Err-clause-left : goal.returns-in-Err-clause-left
returns-in-Err-clause-left g c = omega (arith, c.look.ensures.left, c.on_fault.ensures.left.waits)

pub returns-in-Err-clause-drained : goal.returns-in-Err-clause-drained
returns-in-Err-clause-drained g c = λ e. c.on_fault.ensures.left.drained (c.in-Err.ensures.drained (c.on_fault.ensures.goes e))

pub returns-in-Err-clause-budget : goal.returns-in-Err-clause-budget
returns-in-Err-clause-budget g c = λ e.
    let less = c.on_fault.ensures.linked e in
    omega (arith, less, c.look.ensures.left, c.look.ensures.linked, c.on_fault.ensures.left.waits)
