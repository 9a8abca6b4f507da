use Rattle.std.proofs.Common.{ap}
use Rattle.world.specs.Counts.{Counts}
use Rattle.world.proofs.CountsLemmas.{grow_same, net_grows}
use Rattle.batch_run.proofs.KeptLemmas.{leave_left, leave_open, leave_sound}
use Rattle.batch_run.proofs.LineLemmas.{begun_same}
use Rattle.batch_run.proofs.LoopLemmas.{closes_none, job_closed, job_none, links_closed, links_same, quiet_follow}
use Rattle.batch_run.proofs.StandLemmas.{loop_keeps}
use Rattle.batch_run.proofs.lines.Lines.leave.Goals as goal

pub invariant_of-self : goal.invariant_of-self
invariant_of-self g c = record { begun_are = begun_same {old = c.offer_job.new.self} c.close.ensures.closes.known (begun_same {old = c.args.self.now.connections} c.offer_job.ensures.known.each c.args.self.now.begun_are) }

pub returns-clause-stands : goal.returns-clause-stands
returns-clause-stands g c = λ asks start from slots wait s.
    let p = g.W.Journal.journal c.args.w.now in
    let q = g.W.Journal.journal c.offer_job.new.w in
    let offered = loop_keeps c.args.self.now.connections c.offer_job.new.self c.offer_job.ensures.ports c.offer_job.ensures.wires c.offer_job.ensures.calls (net_grows c.offer_job.ensures.cause) (ap (λ (n : Counts). n.waits) c.offer_job.ensures.cause.others) asks start from slots from.owed from.owed
    (quiet_follow asks start from slots p q c.args.self.now.connections c.offer_job.new.self s.few (links_same c.offer_job.ensures.known) from.owed wait (job_none c.offer_job.ensures.goes)) s in
    loop_keeps c.offer_job.new.self c.close.new.self c.close.ensures.ports c.close.ensures.wires c.close.ensures.calls (grow_same c.close.ensures.counts) (ap (λ (n : Counts). n.waits) c.close.ensures.counts) asks start from slots from.owed from.owed
    (quiet_follow asks start from slots q (g.W.Journal.journal c.close.new.w) c.offer_job.new.self c.close.new.self s.few (links_closed c.args.job c.close.ensures.closes) from.owed wait (closes_none c.close.ensures.goes)) offered

pub returns-clause-closed : goal.returns-clause-closed
returns-clause-closed g c = job_closed c.args.job c.close.ensures.closes

pub returns-clause-left : goal.returns-clause-left
returns-clause-left g c = leave_left c.offer_job.result c.args.job c.args.self.now.connections c.offer_job.new.self c.close.new.self c.offer_job.ensures.own c.offer_job.ensures.failed
    c.offer_job.ensures.known c.close.ensures.failed c.close.ensures.closes c.offer_job.ensures.only c.close.ensures.only c.offer_job.ensures.left c.close.ensures.left
    c.offer_job.ensures.ports c.close.ensures.ports c.offer_job.ensures.reads c.close.ensures.reads c.offer_job.ensures.drained c.close.ensures.drained

pub returns-clause-sound : goal.returns-clause-sound
returns-clause-sound g c = leave_sound c.offer_job.result c.args.job c.args.self.now.connections c.offer_job.new.self c.close.new.self c.offer_job.ensures.own c.offer_job.ensures.failed
    c.offer_job.ensures.known c.close.ensures.failed c.close.ensures.closes

pub returns-clause-linked : goal.returns-clause-linked
returns-clause-linked g c = leave_open c.offer_job.result c.args.job c.args.self.now.connections c.offer_job.new.self c.close.new.self c.offer_job.ensures.own c.offer_job.ensures.failed
    c.offer_job.ensures.known c.close.ensures.failed c.close.ensures.closes
