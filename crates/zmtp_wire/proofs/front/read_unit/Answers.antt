use Rattle.std.proofs.Common.{sym, ◌∙◌}
use Rattle.zmtp_wire.specs.declared.cause.Cause.TheVariants as cause
use Rattle.zmtp_wire.specs.Stream.{shaken}
use Rattle.zmtp_wire.specs.Stream as W
use Rattle.zmtp_wire.proofs.FrontLemmas.{fails_flag, none_part, too_many_wrong}
use Rattle.zmtp_wire.proofs.UnitFronts.{later_size_part, later_body_part, later_too_long, later_error, later_takes}
use Rattle.zmtp_wire.proofs.front.read_unit.Goals as goal

pub returns-in_default-clause-part : goal.returns-in_default-clause-part
returns-in_default-clause-part c = λ r g items o. none_part r
    (shaken g items) c.args.bytes.now c.in_default.ensures.cases

pub returns-then-not-is_allowed-clause-broken : goal.returns-then-not-is_allowed-clause-broken
returns-then-not-is_allowed-clause-broken c = λ r g items o.
    fails_flag r (shaken g items) c.args.at c.args.bytes.now c.in-Some.flag.now c.in-Some.head.now cause.Flags
    c.at.result c.ranges.at.fits c.in-Some.ensures.cases.0
    (W.flags g items c.in-Some.flag.now (sym c.is_allowed.ensures ∙ c.if-not-is_allowed.true)) c.at.ensures

pub returns-then-is_one_too_many-clause-broken : goal.returns-then-is_one_too_many-clause-broken
returns-then-is_one_too_many-clause-broken c = λ r g items o.
    fails_flag r (shaken g items) c.args.at c.args.bytes.now c.in-Some.flag.now c.in-Some.head.now cause.TooMany
    c.at-then-is_one_too_many.result c.ranges.at.fits c.in-Some.ensures.cases.0
    (too_many_wrong r g items c.in-Some.flag.now c.args.frames.now o
    (sym c.is_one_too_many.ensures ∙ c.if-is_one_too_many.true)) c.at-then-is_one_too_many.ensures

pub returns-in_default-read_size-clause-part : goal.returns-in_default-read_size-clause-part
returns-in_default-read_size-clause-part c = λ r g items o.
    later_size_part r g items c.args.bytes.now c.in-Some.flag.now c.in-Some.head.now c.args.frames.now
    (record {
      stands = o;
      spelled = c.in-Some.ensures.cases.0;
      allowed = sym c.is_allowed.ensures
          ∙ c.if-not-is_allowed.false;
      few = sym c.is_one_too_many.ensures ∙ c.if-is_one_too_many.false;
    })
    c.in_default-read_size.ensures.part

pub returns-then-room_beside-size-clause-broken : goal.returns-then-room_beside-size-clause-broken
returns-then-room_beside-size-clause-broken c = λ r g items o.
    later_too_long r g items c.args.at c.args.bytes.now c.in-Some.flag.now c.in-Some.head.now c.args.frames.now
    c.in-Some-read_size.size c.room_beside.result c.size_len.result c.saturating_add-last.result
    c.in-Some-read_size.rest.now c.at-then-room_beside-size.result
    (record {
      stands = o;
      spelled = c.in-Some.ensures.cases.0;
      allowed = sym c.is_allowed.ensures
          ∙ c.if-not-is_allowed.false;
      few = sym c.is_one_too_many.ensures ∙ c.if-is_one_too_many.false;
    })
    c.in-Some-read_size.ensures.whole c.room_beside.ensures c.if-room_beside-size.true c.size_len.ensures
    c.saturating_add-last.ensures c.at-then-room_beside-size.ensures

pub returns-then-begins_error-clause-broken : goal.returns-then-begins_error-clause-broken
returns-then-begins_error-clause-broken c = λ r g items o.
    later_error r g items c.args.at c.args.bytes.now c.in-Some.flag.now c.in-Some.head.now c.args.frames.now
    c.in-Some-read_size.size c.room_beside.result c.size_len.result c.saturating_add-last.result
    c.saturating_add.result c.in-Some-read_size.rest.now
    c.at-then-begins_error.result
    (record {
      stands = o;
      spelled = c.in-Some.ensures.cases.0;
      allowed = sym c.is_allowed.ensures
          ∙ c.if-not-is_allowed.false;
      few = sym c.is_one_too_many.ensures ∙ c.if-is_one_too_many.false;
    })
    c.in-Some-read_size.ensures.whole c.room_beside.ensures c.if-room_beside-size.false
    (sym c.begins_error.ensures ∙ c.if-begins_error.true) c.size_len.ensures c.saturating_add-last.ensures
    c.saturating_add.ensures c.at-then-begins_error.ensures

pub returns-then-rest-size-clause-part : goal.returns-then-rest-size-clause-part
returns-then-rest-size-clause-part c = λ r g items o.
    later_body_part r g items c.args.bytes.now c.in-Some.flag.now c.in-Some.head.now c.args.frames.now
    c.in-Some-read_size.size c.room_beside.result c.in-Some-read_size.rest.now
    (record {
      stands = o;
      spelled = c.in-Some.ensures.cases.0;
      allowed = sym c.is_allowed.ensures
          ∙ c.if-not-is_allowed.false;
      few = sym c.is_one_too_many.ensures ∙ c.if-is_one_too_many.false;
    })
    c.in-Some-read_size.ensures.whole c.room_beside.ensures c.if-room_beside-size.false
    (sym c.begins_error.ensures ∙ c.if-begins_error.false) c.if-rest-size.true

pub returns-clause-whole : goal.returns-clause-whole
returns-clause-whole c = λ r g items o.
    later_takes r g items c.args.bytes.now c.in-Some.flag.now c.in-Some.head.now c.args.frames.now
    c.in-Some-read_size.size c.room_beside.result c.in-Some-read_size.rest.now c.split_at.result.0.now
    c.split_at.result.1.now
    (record {
      stands = o;
      spelled = c.in-Some.ensures.cases.0;
      allowed = sym c.is_allowed.ensures
          ∙ c.if-not-is_allowed.false;
      few = sym c.is_one_too_many.ensures ∙ c.if-is_one_too_many.false;
    })
    c.in-Some-read_size.ensures.whole c.room_beside.ensures c.if-room_beside-size.false
    (sym c.begins_error.ensures ∙ c.if-begins_error.false) c.split_at.ensures.by_index.0 c.split_at.ensures.front_len
