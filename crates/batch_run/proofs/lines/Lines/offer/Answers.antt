use Rattle.std.proofs.Common.{ap, refl}
use Rattle.world.specs.Counts.{Counts}
use Rattle.world.proofs.CountsLemmas.{net_grows}
use Rattle.ready_loop.proofs.JobLemmas.{open_same}
use Rattle.batch_run.proofs.KeptLemmas.{broken}
use Rattle.batch_run.proofs.LineLemmas.{begun_same}
use Rattle.batch_run.proofs.LoopLemmas.{links_same, offers_none, quiet_follow}
use Rattle.batch_run.proofs.StandLemmas.{loop_keeps}
use Rattle.batch_run.proofs.lines.Lines.offer.Goals as goal

pub invariant_of-self : goal.invariant_of-self
invariant_of-self g c = record { begun_are = begun_same c.offer.ensures.known.each c.args.self.now.begun_are }

pub returns-in-Ok-clause-stands : goal.returns-in-Ok-clause-stands
returns-in-Ok-clause-stands g c = λ asks start from slots wait s.
    loop_keeps c.args.self.now.connections c.offer.new.self c.offer.ensures.ports c.offer.ensures.wires c.offer.ensures.calls (net_grows c.offer.ensures.cause) (ap (λ (n : Counts). n.waits) c.offer.ensures.cause.others) asks start from slots from.owed from.owed
    (quiet_follow asks start from slots (g.W.Journal.journal c.args.w.now) (g.W.Journal.journal c.offer.new.w) c.args.self.now.connections c.offer.new.self s.few (links_same c.offer.ensures.known) from.owed wait (offers_none c.offer.ensures.goes)) s

pub returns-in-Err-clause-stands : goal.returns-in-Err-clause-stands
returns-in-Err-clause-stands g c = λ asks start from slots wait s.
    loop_keeps c.args.self.now.connections c.offer.new.self c.offer.ensures.ports c.offer.ensures.wires c.offer.ensures.calls (net_grows c.offer.ensures.cause) (ap (λ (n : Counts). n.waits) c.offer.ensures.cause.others) asks start from slots from.owed from.owed
    (quiet_follow asks start from slots (g.W.Journal.journal c.args.w.now) (g.W.Journal.journal c.offer.new.w) c.args.self.now.connections c.offer.new.self s.few (links_same c.offer.ensures.known) from.owed wait (offers_none c.offer.ensures.goes)) s

pub returns-in-Ok-clause-linked : goal.returns-in-Ok-clause-linked
returns-in-Ok-clause-linked g c = open_same c.offer.ensures.known

pub returns-in-Err-clause-linked : goal.returns-in-Err-clause-linked
returns-in-Err-clause-linked g c = open_same c.offer.ensures.known

pub returns-in-Ok-clause-sound : goal.returns-in-Ok-clause-sound
returns-in-Ok-clause-sound g c = c.in-Ok.ensures.sound c.requires.sound

pub returns-in-Err-clause-broken : goal.returns-in-Err-clause-broken
returns-in-Err-clause-broken g c = broken c.in-Err.fault c.job_of.result c.in-Err.ensures.fault c.job_of.ensures c.in-Err.ensures.anew c.in-Err.ensures.known c.in-Err.ensures.failed c.requires.sound

pub returns-in-Err-clause-cause : goal.returns-in-Err-clause-cause
returns-in-Err-clause-cause g c = c.in-Err.ensures.cause.net.cause refl
