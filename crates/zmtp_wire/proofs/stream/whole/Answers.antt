use Rattle.std.proofs.Common.{false, refl}
use Rattle.std.proofs.lemmas.Result.{err_from_is_err_and}
use Rattle.zmtp_wire.specs.Stream.{nothing, item_of}
use Rattle.zmtp_wire.proofs.WholeLemmas.{comes_none, comes_scan, comes_shaken, none_given, some_given}
use Rattle.zmtp_wire.proofs.WholeLemmas.{greeting_broken, ready_broken, ready_scan, ready_shaken, units_first}
use Rattle.zmtp_wire.proofs.WholeLemmas.{units_next, units_less, units_scan, units_shaken, units_broken, PartAfter}
use Rattle.zmtp_wire.proofs.stream.whole.Goals as goal

pub returns-in_err-newer-clause-broken : goal.returns-in_err-newer-clause-broken
returns-in_err-newer-clause-broken c =
    let p = err_from_is_err_and c.from_residual.result c.from_residual.ensures.1 in
    rw (p.1, p.2) (λ n. greeting_broken c.args.role c.args.bytes.now c.in_err-newer.field-0.0
    (c.in_err-newer.ensures.broken c.args.role))

pub returns-in_default-clause-stream : goal.returns-in_default-clause-stream
returns-in_default-clause-stream c =
    comes_scan c.args.role c.args.bytes.now nothing c.args.bytes.now c.new-messages.result _
    (comes_none c.args.role c.args.bytes.now) (none_given _ _ c.in_default.is c.in_ok-newer.ensures.part
    c.args.role) c.new-messages.ensures refl

pub returns-in_default-clause-shaken : goal.returns-in_default-clause-shaken
returns-in_default-clause-shaken c =
    comes_shaken c.args.role c.args.bytes.now nothing c.args.bytes.now false
    (comes_none c.args.role c.args.bytes.now) (none_given _ _ c.in_default.is c.in_ok-newer.ensures.part
    c.args.role) refl

pub returns-in_err-units-clause-broken : goal.returns-in_err-units-clause-broken
returns-in_err-units-clause-broken c =
    let p = err_from_is_err_and c.from_residual-in_err-units.result c.from_residual-in_err-units.ensures.1 in
    let t = some_given _ _ _ c.in-Some.is c.in_ok-newer.ensures.whole c.args.role in
    rw (p.1, p.2) (λ n. ready_broken c.args.role c.args.bytes.now c.in-Some.first.now c.in-Some.newer
    c.in_err-units.field-0.0 t c.in_err-units.ensures.broken)

pub returns-in_default-2-clause-stream : goal.returns-in_default-2-clause-stream
returns-in_default-2-clause-stream c =
    let t = some_given _ _ _ c.in-Some.is c.in_ok-newer.ensures.whole c.args.role in
    ready_scan c.args.role c.args.bytes.now c.in-Some.first.now c.in-Some.newer c.new-messages.result t
    (λ g. none_given _ _ c.in_default-2.is (c.in_ok-units.ensures.part g)) c.new-messages.ensures

pub returns-in_default-2-clause-shaken : goal.returns-in_default-2-clause-shaken
returns-in_default-2-clause-shaken c =
    let t = some_given _ _ _ c.in-Some.is c.in_ok-newer.ensures.whole c.args.role in
    ready_shaken c.args.role c.args.bytes.now c.in-Some.first.now c.in-Some.newer t
    (λ g. none_given _ _ c.in_default-2.is (c.in_ok-units.ensures.part g))

pub loop-frames-init : goal.loop-frames-init
loop-frames-init c =
    let t = some_given _ _ _ c.in-Some.is c.in_ok-newer.ensures.whole c.args.role in
    units_first c.args.role c.args.bytes.now c.in-Some.first.now c.in-Some-2.units.now c.in-Some.newer
    c.new-frames.result c.new-messages.result t (λ g. some_given _ _ _ c.in-Some-2.is
    (c.in_ok-units.ensures.whole g)) c.new-frames.ensures c.new-messages.ensures

pub returns-in_err-unit-clause-broken : goal.returns-in_err-unit-clause-broken
returns-in_err-unit-clause-broken c =
    let p = err_from_is_err_and c.from_residual-in_err-unit.result c.from_residual-in_err-unit.ensures.1 in
    rw (p.1, p.2) (λ n. units_broken c.args.role c.args.bytes.now c.in-Some.newer c.loop-frames.frames
    c.loop-frames.messages c.loop-frames.rest.now _ c.in_err-unit.field-0.0 c.loop-frames.invariant refl
    (c.in_err-unit.ensures.broken c.args.role))

pub returns-in_err-take_unit-clause-broken : goal.returns-in_err-take_unit-clause-broken
returns-in_err-take_unit-clause-broken c =
    let p = err_from_is_err_and c.from_residual-in_err-take_unit.result c.from_residual-in_err-take_unit.ensures.1
    in
    rw (p.1) (λ n. absurd (n p.2))

pub loop-frames-smaller : goal.loop-frames-smaller
loop-frames-smaller c =
    units_less c.args.role c.args.bytes.now c.in-Some.newer c.loop-frames.frames c.loop-frames.messages
    c.loop-frames.rest.now c.in-Some-3.unit.after.now
    (item_of c.in-Some-3.unit.flag c.in-Some-3.unit.body.now) c.loop-frames.invariant
    (λ g items o. some_given _ _ _ c.in-Some-3.is (c.in_ok-unit.ensures.whole c.args.role g items o))

pub loop-frames-preserved : goal.loop-frames-preserved
loop-frames-preserved c =
    units_next c.args.role c.args.bytes.now c.in-Some.newer c.loop-frames.frames c.take_unit.new.frames
    c.loop-frames.messages c.take_unit.new.out c.loop-frames.rest.now c.in-Some-3.unit.after.now
    (item_of c.in-Some-3.unit.flag c.in-Some-3.unit.body.now) c.loop-frames.invariant
    (λ g items o. some_given _ _ _ c.in-Some-3.is (c.in_ok-unit.ensures.whole c.args.role g items o))
    c.in_ok-take_unit.ensures.frames c.in_ok-take_unit.ensures.messages

pub returns-clause-stream : goal.returns-clause-stream
returns-clause-stream c =
    let part : PartAfter c.args.role c.loop-frames.frames c.loop-frames.rest.now = λ g items o. none_given _ _
    c.in_default-3.is (c.in_ok-unit.ensures.part c.args.role g items o) in
    units_scan c.args.role c.args.bytes.now c.in-Some.newer c.loop-frames.frames c.loop-frames.messages
    c.loop-frames.rest.now c.loop-frames.invariant part

pub returns-clause-shaken : goal.returns-clause-shaken
returns-clause-shaken c =
    let part : PartAfter c.args.role c.loop-frames.frames c.loop-frames.rest.now = λ g items o. none_given _ _
    c.in_default-3.is (c.in_ok-unit.ensures.part c.args.role g items o) in
    units_shaken c.args.role c.args.bytes.now c.in-Some.newer c.loop-frames.frames c.loop-frames.messages
    c.loop-frames.rest.now c.loop-frames.invariant part
