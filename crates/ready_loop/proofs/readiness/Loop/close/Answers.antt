use Rattle.std.proofs.Common.{arith, ◌∙◌, ap}
use Rattle.world.specs.declared.chan.Chan.TheVariants.{Shell, Control, Iopub, Heart}
use Rattle.world.specs.Places.{is_at}
use Rattle.world.proofs.MomentsLemmas.{told_then}
use Rattle.ready_loop.specs.Begins.{CloseMoment, ClosesOne, unless_closed}
use Rattle.ready_loop.specs.History.{conn_on}
use Rattle.ready_loop.specs.States.{failed_at}
use Rattle.ready_loop.proofs.StandLemmas.{goes_then}
use Rattle.ready_loop.proofs.BeginLemmas.{close_came, closed_four, closes_four, closed_sound, Both, both}
use Rattle.ready_loop.proofs.StateLemmas.{sound_by}
use Rattle.ready_loop.proofs.JobLemmas.{only_four}
use Rattle.ready_loop.proofs.PartLemmas.{calls_then}
use Rattle.ready_loop.proofs.WireLemmas.{grows_same, wired_then}
use Rattle.ready_loop.proofs.readiness.Loop.close.Goals as goal

pub returns-clause-came : goal.returns-clause-came
returns-clause-came g c = told_then c.close_one.ensures.came
    (told_then c.close_one-2.ensures.came
    (told_then c.close_one-3.ensures.came c.close_one-4.ensures.came (λ x y z p q. both {P = ClosesOne (conn_on c.args.job Iopub) c.close_one-2.new.self} {Q = ClosesOne (conn_on c.args.job Heart) c.close_one-3.new.self} x y z p q))
    (λ w x z o r. both {P = ClosesOne (conn_on c.args.job Control) c.close_one.new.self} {Q = Both (ClosesOne (conn_on c.args.job Iopub) c.close_one-2.new.self) (ClosesOne (conn_on c.args.job Heart) c.close_one-3.new.self)} w x z o r))
    (λ v w z n r. close_came c.args.job c.requires c.args.self.now c.close_one.new.self c.close_one-2.new.self c.close_one-3.new.self c.close_one-4.new.self
    c.close_one.ensures.only c.close_one-2.ensures.only c.close_one-3.ensures.only v w r.mid r.second.mid z n r.first r.second.first r.second.second)

pub returns-clause-goes : goal.returns-clause-goes
returns-clause-goes g c = told_then (told_then (told_then c.close_one.ensures.goes c.close_one-2.ensures.goes (λ x y z a b. goes_then {R = CloseMoment} (λ h now r. r) (λ h now r. r) a b))
    c.close_one-3.ensures.goes (λ x y z a b. goes_then {R = CloseMoment} (λ h now r. r) (λ h now r. r) a b))
    c.close_one-4.ensures.goes (λ x y z a b. goes_then (λ h now r. r) (λ h now r. r) a b)

pub returns-clause-drained : goal.returns-clause-drained
returns-clause-drained g c = λ d. c.close_one-4.ensures.drained (c.close_one-3.ensures.drained (c.close_one-2.ensures.drained (c.close_one.ensures.drained d)))

pub returns-clause-offered : goal.returns-clause-offered
returns-clause-offered g c = λ d. c.close_one-4.ensures.offered (c.close_one-3.ensures.offered (c.close_one-2.ensures.offered (c.close_one.ensures.offered d)))

pub returns-clause-failed : goal.returns-clause-failed
returns-clause-failed g c = λ p.
    let job = c.args.job in
    c.close_one-4.ensures.failed p ∙ ap (λ b. unless_closed (is_at p (conn_on job Heart)) b) (c.close_one-3.ensures.failed p
    ∙ ap (λ b. unless_closed (is_at p (conn_on job Iopub)) b) (c.close_one-2.ensures.failed p
    ∙ ap (λ b. unless_closed (is_at p (conn_on job Control)) b) (c.close_one.ensures.failed p)))
    ∙ closed_four (is_at p (conn_on job Shell)) (is_at p (conn_on job Control)) (is_at p (conn_on job Iopub)) (is_at p (conn_on job Heart)) (failed_at c.args.self.now p)

pub returns-clause-closes : goal.returns-clause-closes
returns-clause-closes g c = closes_four c.args.job c.args.self.now c.close_one.new.self c.close_one-2.new.self c.close_one-3.new.self c.close_one-4.new.self
    c.close_one.ensures.closes c.close_one-2.ensures.closes c.close_one-3.ensures.closes c.close_one-4.ensures.closes

pub returns-clause-reads : goal.returns-clause-reads
returns-clause-reads g c = omega (arith, c.close_one.ensures.reads, c.close_one-2.ensures.reads, c.close_one-3.ensures.reads, c.close_one-4.ensures.reads)

pub returns-clause-sound : goal.returns-clause-sound
returns-clause-sound g c = λ s. sound_by c.args.self.now c.close_one-4.new.self (λ p e.
    c.close_one-4.ensures.failed p ∙ closed_sound _ (failed_at c.close_one-3.new.self p) (c.close_one-3.ensures.failed p
    ∙ closed_sound _ (failed_at c.close_one-2.new.self p) (c.close_one-2.ensures.failed p
    ∙ closed_sound _ (failed_at c.close_one.new.self p) (c.close_one.ensures.failed p ∙ closed_sound _ (failed_at c.args.self.now p) e)))) s

pub returns-clause-calls : goal.returns-clause-calls
returns-clause-calls g c = calls_then (calls_then (calls_then c.close_one.ensures.calls c.close_one-2.ensures.calls) c.close_one-3.ensures.calls) c.close_one-4.ensures.calls

pub returns-clause-ports : goal.returns-clause-ports
returns-clause-ports g c = c.close_one-4.ensures.ports ∙ c.close_one-3.ensures.ports ∙ c.close_one-2.ensures.ports ∙ c.close_one.ensures.ports

pub returns-clause-wires : goal.returns-clause-wires
returns-clause-wires g c = wired_then (grows_same c.close_one-4.ensures.ports) (wired_then (grows_same c.close_one-3.ensures.ports)
    (wired_then (grows_same c.close_one-2.ensures.ports) c.close_one.ensures.wires c.close_one-2.ensures.wires) c.close_one-3.ensures.wires) c.close_one-4.ensures.wires

pub returns-clause-only : goal.returns-clause-only
returns-clause-only g c = only_four c.args.job c.close_one.ensures.only c.close_one-2.ensures.only c.close_one-3.ensures.only c.close_one-4.ensures.only
