use Rattle.std.proofs.Common.{◌+◌, ◌-◌, length, ap, arith, subst, sym, rules}
use Rattle.ready_loop.specs.States.{IsDrained, IsSound}
use Rattle.batch_run.specs.Batch.{numbered}
use Rattle.batch_run.specs.declared.lines.Lines.{Lines}
use Rattle.batch_run.specs.Lines.{waits_of}
use Rattle.batch_run.specs.Owed.{after}
use Rattle.batch_run.specs.Owed.{begins, none, unknown}
use Rattle.batch_run.specs.Stands.{served_by}
use Rattle.batch_run.proofs.CauseLemmas.{fits, rests, same_lines}
use Rattle.batch_run.proofs.EndLemmas.{clock_stands}
use Rattle.batch_run.proofs.SlotLemmas.{none_same}
use Rattle.batch_run.proofs.batch.carry_out.Goals as goal

pub returns-in-Ok-clause-stands : goal.returns-in-Ok-clause-stands
returns-in-Ok-clause-stands g c = λ start from here all none_over s.
    let asks = numbered c.args.first c.args.asks in
    let n = c.args.first + length c.args.asks in
    let begun = c.in-Ok.ensures.stands start from here s in
    let same = ap waits_of c.read_clock.ensures.lines in
    let told = same_lines asks start from none c.begin_all.new.running.lines c.read_clock.new.self.lines c.read_clock.ensures.lines
    (c.read_clock.ensures.stands asks start (served_by (begins n) c.begin_all.new.running.lines.connections from) n (g.W.Journal.journal c.begin_all.new.w) (g.W.Journal.counts c.begin_all.new.w)
    (omega (arith, c.begin_all.ensures.size, c.requires.size)) (clock_stands (g.W.Journal.journal c.begin_all.new.w) c.last.result c.last.ensures.told) begun) in
    fits asks start (served_by (after c.run.result none) c.run.new.self.lines.connections from) (waits_of c.read_clock.new.self.lines - waits_of c.run.new.self.lines) (waits_of c.args.running.now.lines - waits_of c.run.new.self.lines) (omega (arith, c.begin_all.ensures.waits, same))
    (c.run.ensures.stands (none_same c.read_clock.ensures.over (c.in-Ok.ensures.over none_over)) asks start from (omega (arith, all, c.begin_all.ensures.waits, same)) told)

pub run-requires : goal.run-requires
run-requires g c = record {
  drained = subst (λ (l : Lines). IsDrained l.connections) (sym c.read_clock.ensures.lines) c.in-Ok.ensures.drained;
  sound = subst (λ (l : Lines). IsSound l.connections) (sym c.read_clock.ensures.lines) c.in-Ok.ensures.sound;
  room = search rules;
}

pub returns-in-Err-clause-stands : goal.returns-in-Err-clause-stands
returns-in-Err-clause-stands g c = λ start from here all none_over s.
    rests (numbered c.args.first c.args.asks) start (served_by unknown c.begin_all.new.running.lines.connections from) (waits_of c.args.running.now.lines - waits_of c.begin_all.new.running.lines) (omega (arith, c.begin_all.ensures.waits)) (c.in-Err.ensures.stands start from here s)
