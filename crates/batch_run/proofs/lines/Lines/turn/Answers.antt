use Rattle.std.proofs.Common.{◌≤◌, Err, ap, refl, subst, sym}
use Rattle.ready_loop.specs.States.{waits_left}
use Rattle.ready_loop.proofs.JobLemmas.{open_same}
use Rattle.batch_run.specs.Lines.{waits_of}
use Rattle.batch_run.proofs.CauseLemmas.{net_other}
use Rattle.batch_run.proofs.JournalLemmas.{clock_rises, turn_fails, turn_grows, turn_waits, left_less}
use Rattle.batch_run.proofs.LineLemmas.{begun_same}
use Rattle.batch_run.specs.Owed.{none, turn_clock}
use Rattle.batch_run.proofs.LoopLemmas.{faults_none, links_same, quiet_follow, turn_follow}
use Rattle.batch_run.proofs.StandLemmas.{loop_waits}
use Rattle.batch_run.proofs.lines.Lines.turn.Goals as goal

pub turn-requires : goal.turn-requires
turn-requires g c = record { drained = c.requires.drained; offered = c.requires.offered; sound = c.requires.sound }

pub invariant_of-self : goal.invariant_of-self
invariant_of-self g c = record { begun_are = begun_same c.turn.ensures.known.each c.args.self.now.begun_are }

pub returns-in-Ok-clause-stands : goal.returns-in-Ok-clause-stands
returns-in-Ok-clause-stands g c = λ asks start from slots over taken unlooked s.
    loop_waits c.args.self.now.connections c.turn.new.self c.turn.ensures.ports c.turn.ensures.wires c.turn.ensures.calls (turn_grows c.turn.result (g.W.Journal.counts c.args.w.now) (g.W.Journal.counts c.turn.new.w) c.turn.ensures.cause c.turn.ensures.later) (waits_of c.args.self.now) (waits_left c.turn.new.self) (turn_waits c.turn.result (g.W.Journal.counts c.args.w.now) (g.W.Journal.counts c.turn.new.w) (waits_of c.args.self.now) (waits_left c.turn.new.self) c.turn.ensures.cause c.turn.ensures.left c.turn.ensures.spent).few (turn_waits c.turn.result (g.W.Journal.counts c.args.w.now) (g.W.Journal.counts c.turn.new.w) (waits_of c.args.self.now) (waits_left c.turn.new.self) c.turn.ensures.cause c.turn.ensures.left c.turn.ensures.spent).all asks start from slots none (turn_clock c.last.result 0)
    (turn_follow asks start from slots (g.W.Journal.journal c.args.w.now) (g.W.Journal.journal c.turn.new.w) c.args.self.now.connections c.turn.new.self s.few (links_same c.turn.ensures.known) c.in-Ok.field-0 c.last.result over taken unlooked c.in-Ok.ensures.turned
    (clock_rises (g.W.Journal.journal c.args.w.now) (g.W.Journal.journal c.turn.new.w) c.last-before.result c.last.result c.turn.ensures.turned c.last-before.ensures.told c.last.ensures.told
    (subst (λ n. n ≤ c.last.result) (sym c.last-before.ensures.is) (subst (λ n. (g.W.Journal.counts c.args.w.now).last ≤ n) (sym c.last.ensures.is) c.turn.ensures.later))) c.last.ensures.told) s

pub returns-in-Ok-clause-left : goal.returns-in-Ok-clause-left
returns-in-Ok-clause-left g c = (turn_waits c.turn.result (g.W.Journal.counts c.args.w.now) (g.W.Journal.counts c.turn.new.w) (waits_of c.args.self.now) (waits_left c.turn.new.self) c.turn.ensures.cause c.turn.ensures.left c.turn.ensures.spent).less

pub returns-in-Ok-clause-linked : goal.returns-in-Ok-clause-linked
returns-in-Ok-clause-linked g c = open_same c.turn.ensures.known

pub returns-in-Err-NetFault-clause-stands : goal.returns-in-Err-NetFault-clause-stands
returns-in-Err-NetFault-clause-stands g c = λ asks start from slots over taken unlooked s.
    loop_waits c.args.self.now.connections c.turn.new.self c.turn.ensures.ports c.turn.ensures.wires c.turn.ensures.calls (turn_grows c.turn.result (g.W.Journal.counts c.args.w.now) (g.W.Journal.counts c.turn.new.w) c.turn.ensures.cause c.turn.ensures.later) (waits_of c.args.self.now) (waits_left c.turn.new.self) (turn_waits c.turn.result (g.W.Journal.counts c.args.w.now) (g.W.Journal.counts c.turn.new.w) (waits_of c.args.self.now) (waits_left c.turn.new.self) c.turn.ensures.cause c.turn.ensures.left c.turn.ensures.spent).few (turn_waits c.turn.result (g.W.Journal.counts c.args.w.now) (g.W.Journal.counts c.turn.new.w) (waits_of c.args.self.now) (waits_left c.turn.new.self) c.turn.ensures.cause c.turn.ensures.left c.turn.ensures.spent).all asks start from slots none none
    (quiet_follow asks start from slots (g.W.Journal.journal c.args.w.now) (g.W.Journal.journal c.turn.new.w) c.args.self.now.connections c.turn.new.self s.few (links_same c.turn.ensures.known) none refl (faults_none c.in-Err-NetFault.ensures.turned)) s

pub returns-in-Err-NetFault-clause-left : goal.returns-in-Err-NetFault-clause-left
returns-in-Err-NetFault-clause-left g c = (turn_waits c.turn.result (g.W.Journal.counts c.args.w.now) (g.W.Journal.counts c.turn.new.w) (waits_of c.args.self.now) (waits_left c.turn.new.self) c.turn.ensures.cause c.turn.ensures.left c.turn.ensures.spent).less

pub returns-in-Err-NetFault-clause-linked : goal.returns-in-Err-NetFault-clause-linked
returns-in-Err-NetFault-clause-linked g c = open_same c.turn.ensures.known

pub returns-in-Err-Spent-clause-stands : goal.returns-in-Err-Spent-clause-stands
returns-in-Err-Spent-clause-stands g c = λ asks start from slots over taken unlooked s.
    loop_waits c.args.self.now.connections c.turn.new.self c.turn.ensures.ports c.turn.ensures.wires c.turn.ensures.calls (turn_grows c.turn.result (g.W.Journal.counts c.args.w.now) (g.W.Journal.counts c.turn.new.w) c.turn.ensures.cause c.turn.ensures.later) (waits_of c.args.self.now) (waits_left c.turn.new.self) (turn_waits c.turn.result (g.W.Journal.counts c.args.w.now) (g.W.Journal.counts c.turn.new.w) (waits_of c.args.self.now) (waits_left c.turn.new.self) c.turn.ensures.cause c.turn.ensures.left c.turn.ensures.spent).few (turn_waits c.turn.result (g.W.Journal.counts c.args.w.now) (g.W.Journal.counts c.turn.new.w) (waits_of c.args.self.now) (waits_left c.turn.new.self) c.turn.ensures.cause c.turn.ensures.left c.turn.ensures.spent).all asks start from slots none none
    (quiet_follow asks start from slots (g.W.Journal.journal c.args.w.now) (g.W.Journal.journal c.turn.new.w) c.args.self.now.connections c.turn.new.self s.few (links_same c.turn.ensures.known) none refl (faults_none c.in-Err-Spent.ensures.turned)) s

pub returns-in-Err-Spent-clause-left : goal.returns-in-Err-Spent-clause-left
returns-in-Err-Spent-clause-left g c = (turn_waits c.turn.result (g.W.Journal.counts c.args.w.now) (g.W.Journal.counts c.turn.new.w) (waits_of c.args.self.now) (waits_left c.turn.new.self) c.turn.ensures.cause c.turn.ensures.left c.turn.ensures.spent).less

pub returns-in-Err-Spent-clause-linked : goal.returns-in-Err-Spent-clause-linked
returns-in-Err-Spent-clause-linked g c = open_same c.turn.ensures.known

pub returns-in-Ok-clause-falls : goal.returns-in-Ok-clause-falls
returns-in-Ok-clause-falls g c = left_less (waits_of c.args.self.now) c.in-Ok.ensures.spent.1 c.in-Ok.ensures.left

pub returns-in-Err-NetFault-clause-cause : goal.returns-in-Err-NetFault-clause-cause
returns-in-Err-NetFault-clause-cause g c = turn_fails c.in-Err-NetFault.field-0 (g.W.Journal.counts c.args.w.now) (g.W.Journal.counts c.turn.new.w) c.in-Err-NetFault.ensures.cause (net_other c.in-Err-NetFault.field-0 _ c.in-Err-NetFault.field-0-is)

pub returns-in-Err-Spent-clause-cause : goal.returns-in-Err-Spent-clause-cause
returns-in-Err-Spent-clause-cause g c = c.in-Err-Spent.ensures.spent.0 (ap Err c.in-Err-Spent.field-0-is)
