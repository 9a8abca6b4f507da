use Rattle.std.proofs.Common.{arith, ◌≢◌, ap, sym, subst, Bool, [], ◌∷◌, ◌∙◌, Ok, Err}
use Rattle.world.specs.declared.chan.Chan.TheVariants.{Shell, Control, Iopub, Heart}
use Rattle.world.specs.Places.{place_of}
use Rattle.world.proofs.MomentsLemmas.{told_as, told_then}
use Rattle.ready_loop.specs.declared.fault.LoopFault.{LoopFault}
use Rattle.ready_loop.specs.Begins.{Begins, BeginMoment, IsBegun}
use Rattle.ready_loop.specs.History.{conn_on, after_begin, chans}
use Rattle.ready_loop.specs.States.{failed_after}
use Rattle.ready_loop.proofs.StateLemmas.{sound_as, sound_ok}
use Rattle.ready_loop.proofs.StandLemmas.{goes_then, goes_step}
use Rattle.ready_loop.proofs.BeginLemmas.{fresh_other, begins_then, begins_failed, begins_last, begun_three, begun_four, after_last}
use Rattle.ready_loop.proofs.PartLemmas.{calls_then}
use Rattle.ready_loop.proofs.FaultLemmas.{on_ok, of_conn, of_conn_if, fault_job, fault_own, fails_then, cause_last}
use Rattle.ready_loop.proofs.WireLemmas.{grows_more, wired_then, has_none, has_more, others_kept, others_known}
use Rattle.ready_loop.proofs.readiness.Loop.begin.Goals as goal

pub begin_on-requires-clause-fresh : goal.begin_on-requires-clause-fresh
begin_on-requires-clause-fresh g c = c.requires.fresh.each Shell

pub begin_on-requires-2-clause-fresh : goal.begin_on-requires-2-clause-fresh
begin_on-requires-2-clause-fresh g c =
    let job = c.args.job in
    let apart : place_of (conn_on job Control) ≢ place_of (conn_on job Shell) = λ e. omega (arith, e) in
    fresh_other (place_of (conn_on job Control)) (place_of (conn_on job Shell)) c.args.self.now c.begin_on.new.self apart c.begin_on.ensures.only (c.requires.fresh.each Control)

pub begin_on-requires-3-clause-fresh : goal.begin_on-requires-3-clause-fresh
begin_on-requires-3-clause-fresh g c =
    let job = c.args.job in
    let a : place_of (conn_on job Iopub) ≢ place_of (conn_on job Shell) = λ e. omega (arith, e) in
    let b : place_of (conn_on job Iopub) ≢ place_of (conn_on job Control) = λ e. omega (arith, e) in
    fresh_other (place_of (conn_on job Iopub)) (place_of (conn_on job Control)) c.begin_on.new.self c.begin_on-2.new.self b c.begin_on-2.ensures.only
    (fresh_other (place_of (conn_on job Iopub)) (place_of (conn_on job Shell)) c.args.self.now c.begin_on.new.self a c.begin_on.ensures.only (c.requires.fresh.each Iopub))

pub begin_on-requires-4-clause-fresh : goal.begin_on-requires-4-clause-fresh
begin_on-requires-4-clause-fresh g c =
    let job = c.args.job in
    let q = place_of (conn_on job Heart) in
    let a : place_of (conn_on job Heart) ≢ place_of (conn_on job Shell) = λ e. omega (arith, e) in
    let b : place_of (conn_on job Heart) ≢ place_of (conn_on job Control) = λ e. omega (arith, e) in
    let d : place_of (conn_on job Heart) ≢ place_of (conn_on job Iopub) = λ e. omega (arith, e) in
    fresh_other q (place_of (conn_on job Iopub)) c.begin_on-2.new.self c.begin_on-3.new.self d c.begin_on-3.ensures.only
    (fresh_other q (place_of (conn_on job Control)) c.begin_on.new.self c.begin_on-2.new.self b c.begin_on-2.ensures.only
    (fresh_other q (place_of (conn_on job Shell)) c.args.self.now c.begin_on.new.self a c.begin_on.ensures.only (c.requires.fresh.each Heart)))

-- ---- the entries

pub returns-in-Err-clause-came : goal.returns-in-Err-clause-came
returns-in-Err-clause-came g c = told_as c.in-Err.ensures.came (λ x y a. begins_failed Shell _ c.in-Err.fault x y a)

pub returns-in-Err-begin_on-clause-came : goal.returns-in-Err-begin_on-clause-came
returns-in-Err-begin_on-clause-came g c = told_then c.in-Ok.ensures.came c.in-Err-begin_on.ensures.came (λ x y z a b.
    begins_then _ Shell _ _ x y z a (begins_failed Control _ c.in-Err-begin_on.fault y z b))

pub returns-in-Err-begin_on-2-clause-came : goal.returns-in-Err-begin_on-2-clause-came
returns-in-Err-begin_on-2-clause-came g c = told_then c.in-Ok.ensures.came
    (told_then c.in-Ok-begin_on.ensures.came c.in-Err-begin_on-2.ensures.came (λ x y z a b. begins_then _ Control _ _ x y z a (begins_failed Iopub _ c.in-Err-begin_on-2.fault y z b)))
    (λ x y z a b. begins_then _ Shell _ _ x y z a b)

pub returns-then-not-heart-clause-came : goal.returns-then-not-heart-clause-came
returns-then-not-heart-clause-came g c = told_then c.in-Ok.ensures.came
    (told_then c.in-Ok-begin_on.ensures.came c.in-Ok-begin_on-2.ensures.came (λ x y z a b. begins_then tt Control (Iopub ∷ []) (Ok tt) x y z a (begins_last Iopub (Ok tt) y z b)))
    (λ x y z a b. subst (λ (heart : Bool). Begins {U = Unit {0}} c.args.job c.args.ports (chans heart) (Ok tt) x z) (sym c.if-not-heart.true)
    (begins_then tt Shell (Control ∷ Iopub ∷ []) (Ok tt) x y z a b))

pub returns-clause-came : goal.returns-clause-came
returns-clause-came g c = told_then c.in-Ok.ensures.came
    (told_then c.in-Ok-begin_on.ensures.came
    (told_then c.in-Ok-begin_on-2.ensures.came c.begin_on-4.ensures.came (λ x y z a b. begins_then tt Iopub (Heart ∷ []) c.begin_on-4.result x y z a (begins_last Heart c.begin_on-4.result y z b)))
    (λ x y z a b. begins_then tt Control (Iopub ∷ Heart ∷ []) c.begin_on-4.result x y z a b))
    (λ x y z a b. subst (λ (heart : Bool). Begins {U = Unit {0}} c.args.job c.args.ports (chans heart) c.begin_on-4.result x z) (sym c.if-not-heart.false)
    (begins_then tt Shell (Control ∷ Iopub ∷ Heart ∷ []) c.begin_on-4.result x y z a b))

-- ---- the loop after them

pub returns-in-Err-clause-goes : goal.returns-in-Err-clause-goes
returns-in-Err-clause-goes g c = told_as c.in-Err.ensures.goes (λ x y a.
    goes_step (λ h. sym (ap (λ (e : LoopFault). after_begin {U = Unit {0}} c.args.job c.args.heart (Err e) h) c.in-Err.ensures.fault)) a)

pub returns-in-Err-begin_on-clause-goes : goal.returns-in-Err-begin_on-clause-goes
returns-in-Err-begin_on-clause-goes g c = told_then c.in-Ok.ensures.goes c.in-Err-begin_on.ensures.goes (λ x y z a b.
    goes_step (λ h. sym (ap (λ (e : LoopFault). after_begin {U = Unit {0}} c.args.job c.args.heart (Err e) h) c.in-Err-begin_on.ensures.fault))
    (goes_then (λ h now r. r) (λ h now r. r) a b))

pub returns-in-Err-begin_on-2-clause-goes : goal.returns-in-Err-begin_on-2-clause-goes
returns-in-Err-begin_on-2-clause-goes g c = told_then c.in-Ok.ensures.goes
    (told_then c.in-Ok-begin_on.ensures.goes c.in-Err-begin_on-2.ensures.goes (λ x y z a b. goes_then {R = BeginMoment} (λ h now r. r) (λ h now r. r) a b)) (λ x y z a b.
    goes_step (λ h. sym (ap (λ (e : LoopFault). after_begin {U = Unit {0}} c.args.job c.args.heart (Err e) h) c.in-Err-begin_on-2.ensures.fault))
    (goes_then (λ h now r. r) (λ h now r. r) a b))

pub returns-then-not-heart-clause-goes : goal.returns-then-not-heart-clause-goes
returns-then-not-heart-clause-goes g c = told_then c.in-Ok.ensures.goes
    (told_then c.in-Ok-begin_on.ensures.goes c.in-Ok-begin_on-2.ensures.goes (λ x y z a b. goes_then {R = BeginMoment} (λ h now r. r) (λ h now r. r) a b)) (λ x y z a b.
    goes_step (λ h. sym (ap (λ (heart : Bool). after_begin {U = Unit {0}} c.args.job heart (Ok tt) h) c.if-not-heart.true))
    (goes_then (λ h now r. r) (λ h now r. r) a b))

pub returns-clause-goes : goal.returns-clause-goes
returns-clause-goes g c = told_then c.in-Ok.ensures.goes
    (told_then c.in-Ok-begin_on.ensures.goes
    (told_then c.in-Ok-begin_on-2.ensures.goes c.begin_on-4.ensures.goes (λ x y z a b. goes_then {R = BeginMoment} (λ h now r. r) (λ h now r. r) a b))
    (λ x y z a b. goes_then {R = BeginMoment} (λ h now r. r) (λ h now r. r) a b)) (λ x y z a b.
    goes_step (λ h. after_last c.args.job c.begin_on-4.result c.begin_on-4.ensures.fault h
    ∙ sym (ap (λ (heart : Bool). after_begin {U = Unit {0}} c.args.job heart c.begin_on-4.result h) c.if-not-heart.false))
    (goes_then (λ h now r. r) (λ h now r. r) a b))

pub returns-clause-sound : goal.returns-clause-sound
returns-clause-sound g c = sound_ok c.begin_on-4.result c.args.self.now c.begin_on-4.new.self (record {
  each = λ p. c.begin_on-4.ensures.failed.each p ∙ ap (λ (b : Bool). failed_after c.begin_on-4.result p b)
      (c.in-Ok-begin_on-2.ensures.failed.each p ∙ c.in-Ok-begin_on.ensures.failed.each p ∙ c.in-Ok.ensures.failed.each p);
})

pub returns-in-Err-begin_on-clause-calls : goal.returns-in-Err-begin_on-clause-calls
returns-in-Err-begin_on-clause-calls g c = calls_then c.in-Ok.ensures.calls c.in-Err-begin_on.ensures.calls

pub returns-in-Err-begin_on-2-clause-calls : goal.returns-in-Err-begin_on-2-clause-calls
returns-in-Err-begin_on-2-clause-calls g c = calls_then (calls_then c.in-Ok.ensures.calls c.in-Ok-begin_on.ensures.calls) c.in-Err-begin_on-2.ensures.calls

pub returns-then-not-heart-clause-calls : goal.returns-then-not-heart-clause-calls
returns-then-not-heart-clause-calls g c = calls_then (calls_then c.in-Ok.ensures.calls c.in-Ok-begin_on.ensures.calls) c.in-Ok-begin_on-2.ensures.calls

pub returns-clause-calls : goal.returns-clause-calls
returns-clause-calls g c = calls_then (calls_then (calls_then c.in-Ok.ensures.calls c.in-Ok-begin_on.ensures.calls) c.in-Ok-begin_on-2.ensures.calls) c.begin_on-4.ensures.calls

-- ---- the ports

pub returns-in-Err-clause-wires : goal.returns-in-Err-clause-wires
returns-in-Err-clause-wires g c = c.in-Err.ensures.wires

pub returns-in-Err-begin_on-clause-wires : goal.returns-in-Err-begin_on-clause-wires
returns-in-Err-begin_on-clause-wires g c = wired_then (grows_more c.in-Err-begin_on.ensures.ports) c.in-Ok.ensures.wires c.in-Err-begin_on.ensures.wires

pub returns-in-Err-begin_on-2-clause-wires : goal.returns-in-Err-begin_on-2-clause-wires
returns-in-Err-begin_on-2-clause-wires g c = wired_then (grows_more c.in-Err-begin_on-2.ensures.ports)
    (wired_then (grows_more c.in-Ok-begin_on.ensures.ports) c.in-Ok.ensures.wires c.in-Ok-begin_on.ensures.wires) c.in-Err-begin_on-2.ensures.wires

pub returns-then-not-heart-clause-wires : goal.returns-then-not-heart-clause-wires
returns-then-not-heart-clause-wires g c = wired_then (grows_more c.in-Ok-begin_on-2.ensures.ports)
    (wired_then (grows_more c.in-Ok-begin_on.ensures.ports) c.in-Ok.ensures.wires c.in-Ok-begin_on.ensures.wires) c.in-Ok-begin_on-2.ensures.wires

pub returns-clause-wires : goal.returns-clause-wires
returns-clause-wires g c = wired_then (grows_more c.begin_on-4.ensures.ports) (wired_then (grows_more c.in-Ok-begin_on-2.ensures.ports)
    (wired_then (grows_more c.in-Ok-begin_on.ensures.ports) c.in-Ok.ensures.wires c.in-Ok-begin_on.ensures.wires) c.in-Ok-begin_on-2.ensures.wires) c.begin_on-4.ensures.wires

pub returns-in-Err-clause-ports : goal.returns-in-Err-clause-ports
returns-in-Err-clause-ports g c =
    let none = has_none c.args.job c.args.ports c.args.self.now c.requires.fresh in
    has_more c.args.job c.args.ports Shell c.args.self.now c.begin_on.new.self none c.in-Err.ensures.ports c.in-Err.ensures.known

pub returns-in-Err-begin_on-clause-ports : goal.returns-in-Err-begin_on-clause-ports
returns-in-Err-begin_on-clause-ports g c =
    let none = has_none c.args.job c.args.ports c.args.self.now c.requires.fresh in
    let one = has_more c.args.job c.args.ports Shell c.args.self.now c.begin_on.new.self none c.in-Ok.ensures.ports c.in-Ok.ensures.known in
    has_more c.args.job c.args.ports Control c.begin_on.new.self c.begin_on-2.new.self one c.in-Err-begin_on.ensures.ports c.in-Err-begin_on.ensures.known

pub returns-in-Err-begin_on-2-clause-ports : goal.returns-in-Err-begin_on-2-clause-ports
returns-in-Err-begin_on-2-clause-ports g c =
    let none = has_none c.args.job c.args.ports c.args.self.now c.requires.fresh in
    let one = has_more c.args.job c.args.ports Shell c.args.self.now c.begin_on.new.self none c.in-Ok.ensures.ports c.in-Ok.ensures.known in
    let two = has_more c.args.job c.args.ports Control c.begin_on.new.self c.begin_on-2.new.self one c.in-Ok-begin_on.ensures.ports c.in-Ok-begin_on.ensures.known in
    has_more c.args.job c.args.ports Iopub c.begin_on-2.new.self c.begin_on-3.new.self two c.in-Err-begin_on-2.ensures.ports c.in-Err-begin_on-2.ensures.known

pub returns-then-not-heart-clause-ports : goal.returns-then-not-heart-clause-ports
returns-then-not-heart-clause-ports g c =
    let none = has_none c.args.job c.args.ports c.args.self.now c.requires.fresh in
    let one = has_more c.args.job c.args.ports Shell c.args.self.now c.begin_on.new.self none c.in-Ok.ensures.ports c.in-Ok.ensures.known in
    let two = has_more c.args.job c.args.ports Control c.begin_on.new.self c.begin_on-2.new.self one c.in-Ok-begin_on.ensures.ports c.in-Ok-begin_on.ensures.known in
    has_more c.args.job c.args.ports Iopub c.begin_on-2.new.self c.begin_on-3.new.self two c.in-Ok-begin_on-2.ensures.ports c.in-Ok-begin_on-2.ensures.known

pub returns-clause-ports : goal.returns-clause-ports
returns-clause-ports g c =
    let none = has_none c.args.job c.args.ports c.args.self.now c.requires.fresh in
    let one = has_more c.args.job c.args.ports Shell c.args.self.now c.begin_on.new.self none c.in-Ok.ensures.ports c.in-Ok.ensures.known in
    let two = has_more c.args.job c.args.ports Control c.begin_on.new.self c.begin_on-2.new.self one c.in-Ok-begin_on.ensures.ports c.in-Ok-begin_on.ensures.known in
    let three = has_more c.args.job c.args.ports Iopub c.begin_on-2.new.self c.begin_on-3.new.self two c.in-Ok-begin_on-2.ensures.ports c.in-Ok-begin_on-2.ensures.known in
    has_more c.args.job c.args.ports Heart c.begin_on-3.new.self c.begin_on-4.new.self three c.begin_on-4.ensures.ports c.begin_on-4.ensures.known

pub returns-in-Err-clause-kept : goal.returns-in-Err-clause-kept
returns-in-Err-clause-kept g c = λ p other. others_kept c.args.job _ p Shell _ _ c.in-Err.ensures.ports other

pub returns-in-Err-begin_on-clause-kept : goal.returns-in-Err-begin_on-clause-kept
returns-in-Err-begin_on-clause-kept g c = λ p other. others_kept c.args.job _ p Control _ _ c.in-Err-begin_on.ensures.ports other
    ∙ others_kept c.args.job _ p Shell _ _ c.in-Ok.ensures.ports other

pub returns-in-Err-begin_on-2-clause-kept : goal.returns-in-Err-begin_on-2-clause-kept
returns-in-Err-begin_on-2-clause-kept g c = λ p other. others_kept c.args.job _ p Iopub _ _ c.in-Err-begin_on-2.ensures.ports other
    ∙ others_kept c.args.job _ p Control _ _ c.in-Ok-begin_on.ensures.ports other ∙ others_kept c.args.job _ p Shell _ _ c.in-Ok.ensures.ports other

pub returns-then-not-heart-clause-kept : goal.returns-then-not-heart-clause-kept
returns-then-not-heart-clause-kept g c = λ p other. others_kept c.args.job _ p Iopub _ _ c.in-Ok-begin_on-2.ensures.ports other
    ∙ others_kept c.args.job _ p Control _ _ c.in-Ok-begin_on.ensures.ports other ∙ others_kept c.args.job _ p Shell _ _ c.in-Ok.ensures.ports other

pub returns-clause-kept : goal.returns-clause-kept
returns-clause-kept g c = λ p other. others_kept c.args.job _ p Heart _ _ c.begin_on-4.ensures.ports other ∙ others_kept c.args.job _ p Iopub _ _ c.in-Ok-begin_on-2.ensures.ports other
    ∙ others_kept c.args.job _ p Control _ _ c.in-Ok-begin_on.ensures.ports other ∙ others_kept c.args.job _ p Shell _ _ c.in-Ok.ensures.ports other

-- ---- the fault

pub returns-in-Err-clause-fault : goal.returns-in-Err-clause-fault
returns-in-Err-clause-fault g c = of_conn c.in-Err.ensures.fault

pub returns-in-Err-begin_on-clause-fault : goal.returns-in-Err-begin_on-clause-fault
returns-in-Err-begin_on-clause-fault g c = of_conn c.in-Err-begin_on.ensures.fault

pub returns-in-Err-begin_on-2-clause-fault : goal.returns-in-Err-begin_on-2-clause-fault
returns-in-Err-begin_on-2-clause-fault g c = of_conn c.in-Err-begin_on-2.ensures.fault

pub returns-then-not-heart-clause-fault : goal.returns-then-not-heart-clause-fault
returns-then-not-heart-clause-fault g c = tt

pub returns-clause-fault : goal.returns-clause-fault
returns-clause-fault g c = of_conn_if c.begin_on-4.result (conn_on c.args.job Heart) c.begin_on-4.ensures.fault

-- ---- the connections that are known

pub returns-in-Err-clause-begun : goal.returns-in-Err-clause-begun
returns-in-Err-clause-begun g c = tt

pub returns-in-Err-begin_on-clause-begun : goal.returns-in-Err-begin_on-clause-begun
returns-in-Err-begin_on-clause-begun g c = tt

pub returns-in-Err-begin_on-2-clause-begun : goal.returns-in-Err-begin_on-2-clause-begun
returns-in-Err-begin_on-2-clause-begun g c = tt

pub returns-then-not-heart-clause-begun : goal.returns-then-not-heart-clause-begun
returns-then-not-heart-clause-begun g c = subst (λ (heart : Bool). IsBegun c.args.job heart c.begin_on-3.new.self) (sym c.if-not-heart.true)
    (begun_three c.args.job c.args.self.now c.begin_on.new.self c.begin_on-2.new.self c.begin_on-3.new.self
    c.in-Ok.ensures.known c.in-Ok-begin_on.ensures.known c.in-Ok-begin_on-2.ensures.known)

pub returns-clause-begun : goal.returns-clause-begun
returns-clause-begun g c = on_ok c.begin_on-4.result (begun_four c.args.job c.args.heart c.begin_on-3.new.self c.begin_on-4.new.self
    (begun_three c.args.job c.args.self.now c.begin_on.new.self c.begin_on-2.new.self c.begin_on-3.new.self
    c.in-Ok.ensures.known c.in-Ok-begin_on.ensures.known c.in-Ok-begin_on-2.ensures.known)
    c.begin_on-4.ensures.known)

pub returns-in-Err-clause-others : goal.returns-in-Err-clause-others
returns-in-Err-clause-others g c = λ p other. others_known c.args.job Shell c.args.self.now c.begin_on.new.self c.in-Err.ensures.known p other

pub returns-in-Err-begin_on-clause-others : goal.returns-in-Err-begin_on-clause-others
returns-in-Err-begin_on-clause-others g c = λ p other. others_known c.args.job Control c.begin_on.new.self c.begin_on-2.new.self c.in-Err-begin_on.ensures.known p other
    ∙ others_known c.args.job Shell c.args.self.now c.begin_on.new.self c.in-Ok.ensures.known p other

pub returns-in-Err-begin_on-2-clause-others : goal.returns-in-Err-begin_on-2-clause-others
returns-in-Err-begin_on-2-clause-others g c = λ p other. others_known c.args.job Iopub c.begin_on-2.new.self c.begin_on-3.new.self c.in-Err-begin_on-2.ensures.known p other
    ∙ others_known c.args.job Control c.begin_on.new.self c.begin_on-2.new.self c.in-Ok-begin_on.ensures.known p other
    ∙ others_known c.args.job Shell c.args.self.now c.begin_on.new.self c.in-Ok.ensures.known p other

pub returns-then-not-heart-clause-others : goal.returns-then-not-heart-clause-others
returns-then-not-heart-clause-others g c = λ p other. others_known c.args.job Iopub c.begin_on-2.new.self c.begin_on-3.new.self c.in-Ok-begin_on-2.ensures.known p other
    ∙ others_known c.args.job Control c.begin_on.new.self c.begin_on-2.new.self c.in-Ok-begin_on.ensures.known p other
    ∙ others_known c.args.job Shell c.args.self.now c.begin_on.new.self c.in-Ok.ensures.known p other

pub returns-clause-others : goal.returns-clause-others
returns-clause-others g c = λ p other. others_known c.args.job Heart c.begin_on-3.new.self c.begin_on-4.new.self c.begin_on-4.ensures.known p other
    ∙ others_known c.args.job Iopub c.begin_on-2.new.self c.begin_on-3.new.self c.in-Ok-begin_on-2.ensures.known p other
    ∙ others_known c.args.job Control c.begin_on.new.self c.begin_on-2.new.self c.in-Ok-begin_on.ensures.known p other
    ∙ others_known c.args.job Shell c.args.self.now c.begin_on.new.self c.in-Ok.ensures.known p other

-- ---- what is to be done

pub returns-in-Err-clause-drained : goal.returns-in-Err-clause-drained
returns-in-Err-clause-drained g c = c.in-Err.ensures.drained

pub returns-in-Err-begin_on-clause-drained : goal.returns-in-Err-begin_on-clause-drained
returns-in-Err-begin_on-clause-drained g c = λ d. c.in-Err-begin_on.ensures.drained (c.in-Ok.ensures.drained d)

pub returns-in-Err-begin_on-2-clause-drained : goal.returns-in-Err-begin_on-2-clause-drained
returns-in-Err-begin_on-2-clause-drained g c = λ d. c.in-Err-begin_on-2.ensures.drained (c.in-Ok-begin_on.ensures.drained (c.in-Ok.ensures.drained d))

pub returns-then-not-heart-clause-drained : goal.returns-then-not-heart-clause-drained
returns-then-not-heart-clause-drained g c = λ d. c.in-Ok-begin_on-2.ensures.drained (c.in-Ok-begin_on.ensures.drained (c.in-Ok.ensures.drained d))

pub returns-clause-drained : goal.returns-clause-drained
returns-clause-drained g c = λ d. c.begin_on-4.ensures.drained (c.in-Ok-begin_on-2.ensures.drained (c.in-Ok-begin_on.ensures.drained (c.in-Ok.ensures.drained d)))

pub returns-in-Err-clause-holds : goal.returns-in-Err-clause-holds
returns-in-Err-clause-holds g c = c.in-Err.ensures.holds

pub returns-in-Err-begin_on-clause-holds : goal.returns-in-Err-begin_on-clause-holds
returns-in-Err-begin_on-clause-holds g c = λ h. c.in-Err-begin_on.ensures.holds (c.in-Ok.ensures.holds h)

pub returns-in-Err-begin_on-2-clause-holds : goal.returns-in-Err-begin_on-2-clause-holds
returns-in-Err-begin_on-2-clause-holds g c = λ h. c.in-Err-begin_on-2.ensures.holds (c.in-Ok-begin_on.ensures.holds (c.in-Ok.ensures.holds h))

pub returns-then-not-heart-clause-holds : goal.returns-then-not-heart-clause-holds
returns-then-not-heart-clause-holds g c = λ h. c.in-Ok-begin_on-2.ensures.holds (c.in-Ok-begin_on.ensures.holds (c.in-Ok.ensures.holds h))

pub returns-clause-holds : goal.returns-clause-holds
returns-clause-holds g c = λ h. c.begin_on-4.ensures.holds (c.in-Ok-begin_on-2.ensures.holds (c.in-Ok-begin_on.ensures.holds (c.in-Ok.ensures.holds h)))

pub returns-in-Err-clause-offered : goal.returns-in-Err-clause-offered
returns-in-Err-clause-offered g c = c.in-Err.ensures.offered

pub returns-in-Err-begin_on-clause-offered : goal.returns-in-Err-begin_on-clause-offered
returns-in-Err-begin_on-clause-offered g c = λ h o.
    let h1 = c.in-Ok.ensures.holds h in
    c.in-Err-begin_on.ensures.offered h1 (c.in-Ok.ensures.offered h o)

pub returns-in-Err-begin_on-2-clause-offered : goal.returns-in-Err-begin_on-2-clause-offered
returns-in-Err-begin_on-2-clause-offered g c = λ h o.
    let h1 = c.in-Ok.ensures.holds h in
    let h2 = c.in-Ok-begin_on.ensures.holds h1 in
    c.in-Err-begin_on-2.ensures.offered h2 (c.in-Ok-begin_on.ensures.offered h1 (c.in-Ok.ensures.offered h o))

pub returns-then-not-heart-clause-offered : goal.returns-then-not-heart-clause-offered
returns-then-not-heart-clause-offered g c = λ h o.
    let h1 = c.in-Ok.ensures.holds h in
    let h2 = c.in-Ok-begin_on.ensures.holds h1 in
    c.in-Ok-begin_on-2.ensures.offered h2 (c.in-Ok-begin_on.ensures.offered h1 (c.in-Ok.ensures.offered h o))

pub returns-clause-offered : goal.returns-clause-offered
returns-clause-offered g c = λ h o.
    let h1 = c.in-Ok.ensures.holds h in
    let h2 = c.in-Ok-begin_on.ensures.holds h1 in
    let h3 = c.in-Ok-begin_on-2.ensures.holds h2 in
    c.begin_on-4.ensures.offered h3 (c.in-Ok-begin_on-2.ensures.offered h2 (c.in-Ok-begin_on.ensures.offered h1 (c.in-Ok.ensures.offered h o)))

-- ---- what has failed

pub returns-in-Err-clause-failed : goal.returns-in-Err-clause-failed
returns-in-Err-clause-failed g c = c.in-Err.ensures.failed

pub returns-in-Err-begin_on-clause-failed : goal.returns-in-Err-begin_on-clause-failed
returns-in-Err-begin_on-clause-failed g c = fails_then c.in-Ok.ensures.failed.each c.in-Err-begin_on.ensures.failed

pub returns-in-Err-begin_on-2-clause-failed : goal.returns-in-Err-begin_on-2-clause-failed
returns-in-Err-begin_on-2-clause-failed g c = fails_then (λ p. c.in-Ok-begin_on.ensures.failed.each p ∙ c.in-Ok.ensures.failed.each p) c.in-Err-begin_on-2.ensures.failed

pub returns-then-not-heart-clause-failed : goal.returns-then-not-heart-clause-failed
returns-then-not-heart-clause-failed g c = fails_then (λ p. c.in-Ok-begin_on.ensures.failed.each p ∙ c.in-Ok.ensures.failed.each p) c.in-Ok-begin_on-2.ensures.failed

pub returns-clause-failed : goal.returns-clause-failed
returns-clause-failed g c = fails_then (λ p. c.in-Ok-begin_on-2.ensures.failed.each p ∙ c.in-Ok-begin_on.ensures.failed.each p ∙ c.in-Ok.ensures.failed.each p) c.begin_on-4.ensures.failed

pub returns-in-Err-clause-sound : goal.returns-in-Err-clause-sound
returns-in-Err-clause-sound g c = tt

pub returns-in-Err-begin_on-clause-sound : goal.returns-in-Err-begin_on-clause-sound
returns-in-Err-begin_on-clause-sound g c = tt

pub returns-in-Err-begin_on-2-clause-sound : goal.returns-in-Err-begin_on-2-clause-sound
returns-in-Err-begin_on-2-clause-sound g c = tt

pub returns-then-not-heart-clause-sound : goal.returns-then-not-heart-clause-sound
returns-then-not-heart-clause-sound g c = sound_as c.args.self.now c.begin_on-3.new.self (λ p. c.in-Ok-begin_on-2.ensures.failed.each p ∙ c.in-Ok-begin_on.ensures.failed.each p ∙ c.in-Ok.ensures.failed.each p)

pub returns-in-Err-clause-left : goal.returns-in-Err-clause-left
returns-in-Err-clause-left g c = c.in-Err.ensures.only.left

pub returns-in-Err-begin_on-clause-left : goal.returns-in-Err-begin_on-clause-left
returns-in-Err-begin_on-clause-left g c = c.in-Err-begin_on.ensures.only.left ∙ c.in-Ok.ensures.only.left

pub returns-in-Err-begin_on-2-clause-left : goal.returns-in-Err-begin_on-2-clause-left
returns-in-Err-begin_on-2-clause-left g c = c.in-Err-begin_on-2.ensures.only.left ∙ c.in-Ok-begin_on.ensures.only.left ∙ c.in-Ok.ensures.only.left

pub returns-then-not-heart-clause-left : goal.returns-then-not-heart-clause-left
returns-then-not-heart-clause-left g c = c.in-Ok-begin_on-2.ensures.only.left ∙ c.in-Ok-begin_on.ensures.only.left ∙ c.in-Ok.ensures.only.left

pub returns-clause-left : goal.returns-clause-left
returns-clause-left g c = c.begin_on-4.ensures.only.left ∙ c.in-Ok-begin_on-2.ensures.only.left ∙ c.in-Ok-begin_on.ensures.only.left ∙ c.in-Ok.ensures.only.left

pub returns-in-Err-clause-calls : goal.returns-in-Err-clause-calls
returns-in-Err-clause-calls g c = c.in-Err.ensures.calls

pub returns-in-Err-clause-cause : goal.returns-in-Err-clause-cause
returns-in-Err-clause-cause g c = c.in-Err.ensures.cause

pub returns-in-Err-begin_on-clause-cause : goal.returns-in-Err-begin_on-clause-cause
returns-in-Err-begin_on-clause-cause g c = cause_last c.in-Ok.ensures.cause c.in-Err-begin_on.ensures.cause

pub returns-in-Err-begin_on-2-clause-cause : goal.returns-in-Err-begin_on-2-clause-cause
returns-in-Err-begin_on-2-clause-cause g c = cause_last (cause_last c.in-Ok.ensures.cause c.in-Ok-begin_on.ensures.cause) c.in-Err-begin_on-2.ensures.cause

pub returns-then-not-heart-clause-cause : goal.returns-then-not-heart-clause-cause
returns-then-not-heart-clause-cause g c = cause_last (cause_last c.in-Ok.ensures.cause c.in-Ok-begin_on.ensures.cause) c.in-Ok-begin_on-2.ensures.cause

pub returns-clause-cause : goal.returns-clause-cause
returns-clause-cause g c = cause_last (cause_last (cause_last c.in-Ok.ensures.cause c.in-Ok-begin_on.ensures.cause) c.in-Ok-begin_on-2.ensures.cause) c.begin_on-4.ensures.cause

pub returns-in-Err-clause-own : goal.returns-in-Err-clause-own
returns-in-Err-clause-own g c = λ conn e. fault_job c.in-Err.ensures.fault e

pub returns-in-Err-begin_on-clause-own : goal.returns-in-Err-begin_on-clause-own
returns-in-Err-begin_on-clause-own g c = λ conn e. fault_job c.in-Err-begin_on.ensures.fault e

pub returns-in-Err-begin_on-2-clause-own : goal.returns-in-Err-begin_on-2-clause-own
returns-in-Err-begin_on-2-clause-own g c = λ conn e. fault_job c.in-Err-begin_on-2.ensures.fault e

pub returns-then-not-heart-clause-own : goal.returns-then-not-heart-clause-own
returns-then-not-heart-clause-own g c = λ conn e. absurd (cc)

pub returns-clause-own : goal.returns-clause-own
returns-clause-own g c = λ conn e. fault_own c.begin_on-4.result _ conn c.begin_on-4.ensures.fault e
