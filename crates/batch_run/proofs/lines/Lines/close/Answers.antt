use Rattle.std.proofs.Common.{ap}
use Rattle.world.specs.Counts.{Counts}
use Rattle.world.proofs.CountsLemmas.{grow_same}
use Rattle.batch_run.proofs.KeptLemmas.{close_left}
use Rattle.batch_run.proofs.LineLemmas.{begun_same}
use Rattle.batch_run.proofs.LoopLemmas.{closes_none, job_closed, links_closed, quiet_follow}
use Rattle.batch_run.proofs.StandLemmas.{loop_keeps}
use Rattle.batch_run.proofs.lines.Lines.close.Goals as goal

pub invariant_of-self : goal.invariant_of-self
invariant_of-self g c = record { begun_are = begun_same c.close.ensures.closes.known c.args.self.now.begun_are }

pub returns-clause-stands : goal.returns-clause-stands
returns-clause-stands g c = λ asks start from slots wait s.
    loop_keeps c.args.self.now.connections c.close.new.self c.close.ensures.ports c.close.ensures.wires c.close.ensures.calls (grow_same c.close.ensures.counts) (ap (λ (n : Counts). n.waits) c.close.ensures.counts) asks start from slots from.owed from.owed
    (quiet_follow asks start from slots (g.W.Journal.journal c.args.w.now) (g.W.Journal.journal c.close.new.w) c.args.self.now.connections c.close.new.self s.few (links_closed c.args.job c.close.ensures.closes) from.owed wait (closes_none c.close.ensures.goes)) s

pub returns-clause-closed : goal.returns-clause-closed
returns-clause-closed g c = job_closed c.args.job c.close.ensures.closes

pub returns-clause-left : goal.returns-clause-left
returns-clause-left g c = close_left c.args.job c.args.self.now.connections c.close.new.self c.close.ensures.closes c.close.ensures.only c.close.ensures.left c.close.ensures.ports
    c.close.ensures.reads c.close.ensures.drained c.close.ensures.sound
