use Rattle.world.specs.Counts.{Counts}
use Rattle.std.proofs.Common.{◌+◌, ◌*◌, ◌<◌, arith, length, suc, sym, subst, ap, refl}
use Rattle.batch_run.specs.Kept.{AreBegun}
use Rattle.batch_run.proofs.LineLemmas.{begun_begun, begun_failed, fresh_job, fresh_next}
use Rattle.batch_run.proofs.KeptLemmas.{begun_but}
use Rattle.world.proofs.CountsLemmas.{net_grows}
use Rattle.batch_run.specs.Owed.{begins}
use Rattle.batch_run.proofs.LoopLemmas.{begin_fails, begin_follow}
use Rattle.batch_run.proofs.StandLemmas.{loop_begins}
use Rattle.batch_run.proofs.lines.Lines.begin.Goals as goal

pub begin-requires-clause-fresh : goal.begin-requires-clause-fresh
begin-requires-clause-fresh g c = fresh_job c.requires.fresh

pub invariant_of-self : goal.invariant_of-self
invariant_of-self g c =
    let b = c.args.self.now in
    let size = c.mark.ensures.size in
    let room : 4 * c.args.job + 3 < length c.args.self.now.begun = omega (arith, size, c.requires.job) in
    record { begun_are = subst (λ x. AreBegun x c.begin.new.self) (sym c.mark.ensures.begun) (begun_begun room c.in-Ok.ensures.begun c.in-Ok.ensures.others b.begun_are) }

pub invariant_of-self-in-Err-1 : goal.invariant_of-self-in-Err-1
invariant_of-self-in-Err-1 g c = record { begun_are = begun_failed c.requires.fresh c.in-Err.ensures.others c.args.self.now.begun_are }

pub returns-in-Ok-clause-sound : goal.returns-in-Ok-clause-sound
returns-in-Ok-clause-sound g c = c.in-Ok.ensures.sound c.requires.sound

pub returns-in-Err-clause-but : goal.returns-in-Err-clause-but
returns-in-Err-clause-but g c = begun_but c.in-Err.fault c.args.job c.in-Err.ensures.own c.in-Err.ensures.failed c.requires.sound

pub returns-in-Ok-clause-fresh : goal.returns-in-Ok-clause-fresh
returns-in-Ok-clause-fresh g c = fresh_next c.requires.fresh c.in-Ok.ensures.others

pub returns-in-Err-clause-fresh : goal.returns-in-Err-clause-fresh
returns-in-Err-clause-fresh g c = fresh_next c.requires.fresh c.in-Err.ensures.others

pub returns-in-Ok-clause-stands : goal.returns-in-Ok-clause-stands
returns-in-Ok-clause-stands g c = λ asks start from slots given runs s.
    loop_begins c.args.job c.args.wanted.ports c.args.self.now.connections c.begin.new.self c.begin.ensures.ports c.begin.ensures.kept c.begin.ensures.wires c.begin.ensures.calls (net_grows c.begin.ensures.cause) (ap (λ (n : Counts). n.waits) c.begin.ensures.cause.others) asks start from slots (begins c.args.job) (begins (suc c.args.job)) given
    (begin_follow asks start from slots (g.W.Journal.journal c.args.w.now) (g.W.Journal.journal c.begin.new.w) c.args.self.now.connections c.begin.new.self s.few c.args.job c.args.wanted.ports c.args.wanted.heart c.begin.result runs c.begin.ensures.goes c.begin.ensures.came c.begin.ensures.others c.in-Ok.ensures.begun.iopub) s

pub returns-in-Err-clause-stands : goal.returns-in-Err-clause-stands
returns-in-Err-clause-stands g c = λ asks start from slots given runs s.
    loop_begins c.args.job c.args.wanted.ports c.args.self.now.connections c.begin.new.self c.begin.ensures.ports c.begin.ensures.kept c.begin.ensures.wires c.begin.ensures.calls (net_grows c.begin.ensures.cause) (ap (λ (n : Counts). n.waits) c.begin.ensures.cause.others) asks start from slots (begins c.args.job) (begins c.args.job) given
    (begin_fails asks start from slots (g.W.Journal.journal c.args.w.now) (g.W.Journal.journal c.begin.new.w) c.args.self.now.connections c.begin.new.self s.few c.args.job c.args.wanted.ports c.args.wanted.heart c.begin.result runs c.begin.ensures.goes c.begin.ensures.came c.begin.ensures.others) s

pub returns-in-Err-clause-cause : goal.returns-in-Err-clause-cause
returns-in-Err-clause-cause g c = c.in-Err.ensures.cause.net.cause refl
