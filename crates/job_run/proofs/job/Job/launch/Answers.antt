use Rattle.std.proofs.Common.{refl, subst}
use Rattle.world.specs.declared.entry.Entry.TheVariants as made
use Rattle.world.specs.Moments.{Tells}
use Rattle.job_saves.proofs.LaunchLemmas.{ports_given}
use Rattle.job_run.proofs.LaunchLemmas.{either_way, may_connect, ports_asked}
use Rattle.world.proofs.CountsLemmas.{net_grows, grow_then}
use Rattle.job_run.proofs.RunLemmas.{passes_one, passes_role, asked_called}
use Rattle.job_run.proofs.WorkLemmas.{net_works}
use Rattle.job_run.proofs.CauseLemmas.{causes_stay}
use Rattle.job_run.proofs.PartLemmas.{wire_quiet, wire_childless}
use Rattle.job_run.proofs.job.Job.launch.Goals as goal
use Rattle.world.proofs.MomentsLemmas.{since_then, tells_as, told_then}
use Rattle.world.specs.Moments.{Since, more, start}
use Rattle.job_journal.proofs.Quiet.{quiet_kind}
use Rattle.job_run.proofs.JobLemmas.{keeps_still}

pub returns-in-Some-clause-course : goal.returns-in-Some-clause-course
returns-in-Some-clause-course g c o r =
    c.start_on_ports.ensures.course o (passes_one o c.args.self.now _ _ _ _ _ _ refl refl refl refl c.free_ports.ensures.tells (net_grows c.free_ports.ensures.cause) r)

pub returns-in-Some-clause-calls : goal.returns-in-Some-clause-calls
returns-in-Some-clause-calls g c cast since from may portless r =
    let number = c.args.self.now.number in
    let j = g.W.Journal.journal c.args.w.now in
    let k = g.W.Journal.journal c.free_ports.new.self in
    let tells = subst (λ (q : _). Tells j k (made.Ports number q)) c.in-Some.is c.free_ports.ensures.tells in
    c.start_on_ports.ensures.calls cast since from (may_connect cast number c.in-Some.ports c.args.kernel.now c.args.here.now c.args.self.now.run j k wire_childless tells may)
    (passes_role cast since from c.args.self.now _ _ _ _ _ refl refl refl
    (λ s. asked_called cast since from _ _ _ _ _ _ (ports_asked cast c.args.self.now.number r.role.ask r.role.has may.cast.starts _ _ portless) wire_quiet (λ past. tt) c.free_ports.ensures.tells (net_works c.free_ports.ensures.cause) s) r)

pub returns-in-None-clause-course : goal.returns-in-None-clause-course
returns-in-None-clause-course g c o r =
    passes_one o c.args.self.now _ _ _ _ _ _ refl refl refl refl c.free_ports.ensures.tells (net_grows c.free_ports.ensures.cause) r

pub returns-in-None-clause-calls : goal.returns-in-None-clause-calls
returns-in-None-clause-calls g c cast since from may portless r =
    passes_role cast since from c.args.self.now _ _ _ _ _ refl refl refl
    (λ s. asked_called cast since from _ _ _ _ _ _ (ports_asked cast c.args.self.now.number r.role.ask r.role.has may.cast.starts _ _ portless) wire_quiet (λ past. tt) c.free_ports.ensures.tells (net_works c.free_ports.ensures.cause) s) r

pub returns-in-Some-clause-outcome : goal.returns-in-Some-clause-outcome
returns-in-Some-clause-outcome g c = refl

pub returns-in-None-clause-outcome : goal.returns-in-None-clause-outcome
returns-in-None-clause-outcome g c = refl

pub returns-in-Some-clause-ports : goal.returns-in-Some-clause-ports
returns-in-Some-clause-ports g c =
    let number = c.args.self.now.number in
    let j = g.W.Journal.journal c.args.w.now in
    let k = g.W.Journal.journal c.free_ports.new.self in
    let tells = subst (λ (q : _). Tells j k (made.Ports number q)) c.in-Some.is c.free_ports.ensures.tells in
    either_way c.start_on_ports.result (c.start_on_ports.ensures.given number c.in-Some.ports (ports_given number c.in-Some.ports j k tells))

pub returns-in-Some-clause-ends : goal.returns-in-Some-clause-ends
returns-in-Some-clause-ends g c =
    let e = c.start_on_ports.ensures.ends in
    let grow = net_grows c.free_ports.ensures.cause in
    record {
      saved = e.saved;
      grow = grow_then grow e.grow;
      cause = causes_stay (g.W.Journal.counts c.args.w.now) (g.W.Journal.counts c.free_ports.new.self) (g.W.Journal.counts c.start_on_ports.new.w) c.start_on_ports.result grow e.cause;
      own = e.own;
    }

pub returns-in-None-clause-ends : goal.returns-in-None-clause-ends
returns-in-None-clause-ends g c =
    let net = c.free_ports.ensures.cause in
    record { saved = refl; grow = net_grows net; cause = net.net.cause c.in-None.is; own = tt }

pub returns-in-Some-clause-quiet : goal.returns-in-Some-clause-quiet
returns-in-Some-clause-quiet g c facts =
    told_then (tells_as c.free_ports.ensures.tells (λ past. more start (quiet_kind facts _ past refl))) (c.start_on_ports.ensures.quiet facts) (λ x y z w v. since_then w v)

pub returns-in-None-clause-quiet : goal.returns-in-None-clause-quiet
returns-in-None-clause-quiet g c facts = tells_as c.free_ports.ensures.tells (λ past. more start (quiet_kind facts _ past refl))

pub returns-in-Some-clause-keeps : goal.returns-in-Some-clause-keeps
returns-in-Some-clause-keeps g c = keeps_still c.args.self.now _ refl refl refl refl

pub returns-in-None-clause-keeps : goal.returns-in-None-clause-keeps
returns-in-None-clause-keeps g c = keeps_still c.args.self.now _ refl refl refl refl

pub returns-in-Some-clause-asks : goal.returns-in-Some-clause-asks
returns-in-Some-clause-asks g c =
    let number = c.args.self.now.number in
    let j = g.W.Journal.journal c.args.w.now in
    let k = g.W.Journal.journal c.free_ports.new.self in
    let tells = subst (λ (q : _). Tells j k (made.Ports number q)) c.in-Some.is c.free_ports.ensures.tells in
    either_way c.start_on_ports.result (told_then tells c.start_on_ports.ensures.later (λ x y z is w. record { ports = c.in-Some.ports; later = subst (λ mid. Since (λ n. Unit {0}) mid z) is w }))
