use Rattle.std.proofs.Common.{ℕ, Ok, ap, length, refl}
use Rattle.world.specs.Counts.{Counts}
use Rattle.world.proofs.CountsLemmas.{net_grows}
use Rattle.ready_loop.proofs.JobLemmas.{open_same}
use Rattle.ready_loop.specs.declared.next.Next.TheVariants.{Quiet}
use Rattle.batch_run.proofs.KeptLemmas.{broken}
use Rattle.batch_run.proofs.LineLemmas.{begun_same, ok_same}
use Rattle.batch_run.specs.Owed.{after_read}
use Rattle.batch_run.specs.Owed.{none}
use Rattle.batch_run.proofs.LoopLemmas.{links_same, read_fault, read_follow}
use Rattle.batch_run.proofs.StandLemmas.{loop_keeps}
use Rattle.batch_run.proofs.lines.Lines.next.Goals as goal

pub invariant_of-self : goal.invariant_of-self
invariant_of-self g c = record { begun_are = begun_same c.next.ensures.known.each c.args.self.now.begun_are }

pub returns-in-Ok-clause-stands : goal.returns-in-Ok-clause-stands
returns-in-Ok-clause-stands g c = λ asks start from slots over s.
    loop_keeps c.args.self.now.connections c.next.new.self c.next.ensures.ports c.next.ensures.wires c.next.ensures.calls (net_grows c.next.ensures.cause) (ap (λ (n : Counts). n.waits) c.next.ensures.cause.others) asks start from slots none (after_read {E = ℕ} (Ok c.in-Ok.next) c.next.new.buf)
    (read_follow asks start from slots (g.W.Journal.journal c.args.w.now) (g.W.Journal.journal c.next.new.w) c.args.self.now.connections c.next.new.self s.few (links_same c.next.ensures.known) ℕ c.in-Ok.next (length c.args.buf.now) c.next.new.buf over c.in-Ok.ensures.goes c.in-Ok.ensures.came) s

pub returns-in-Err-clause-stands : goal.returns-in-Err-clause-stands
returns-in-Err-clause-stands g c = λ asks start from slots over s.
    loop_keeps c.args.self.now.connections c.next.new.self c.next.ensures.ports c.next.ensures.wires c.next.ensures.calls (net_grows c.next.ensures.cause) (ap (λ (n : Counts). n.waits) c.next.ensures.cause.others) asks start from slots none none
    (read_fault asks start from slots (g.W.Journal.journal c.args.w.now) (g.W.Journal.journal c.next.new.w) c.args.self.now.connections c.next.new.self s.few (links_same c.next.ensures.known) c.in-Err.fault c.job_of.result (length c.args.buf.now) c.next.new.buf c.in-Err.ensures.goes c.in-Err.ensures.came) s

pub returns-in-Ok-clause-linked : goal.returns-in-Ok-clause-linked
returns-in-Ok-clause-linked g c = open_same c.next.ensures.known

pub returns-in-Err-clause-linked : goal.returns-in-Err-clause-linked
returns-in-Err-clause-linked g c = open_same c.next.ensures.known

pub returns-in-Ok-clause-sound : goal.returns-in-Ok-clause-sound
returns-in-Ok-clause-sound g c = c.in-Ok.ensures.sound c.requires.sound

pub returns-in-Err-clause-broken : goal.returns-in-Err-clause-broken
returns-in-Err-clause-broken g c = broken c.in-Err.fault c.job_of.result c.in-Err.ensures.fault c.job_of.ensures c.in-Err.ensures.anew c.in-Err.ensures.known c.in-Err.ensures.failed c.requires.sound

pub returns-in-Err-clause-cause : goal.returns-in-Err-clause-cause
returns-in-Err-clause-cause g c = c.in-Err.ensures.cause.net.cause refl

pub returns-in-Ok-clause-reads : goal.returns-in-Ok-clause-reads
returns-in-Ok-clause-reads g c = λ other. c.in-Ok.ensures.reads (λ e. other (ok_same c.in-Ok.next Quiet e))

pub returns-in-Err-clause-reads : goal.returns-in-Err-clause-reads
returns-in-Err-clause-reads g c = λ other. c.in-Err.ensures.reads (λ e. absurd (cc))
