use Rattle.std.proofs.Common.{sym, ◌∙◌}
use Rattle.zmtp_wire.specs.declared.cause.Cause.TheVariants as cause
use Rattle.zmtp_wire.specs.Stream.{greeted}
use Rattle.zmtp_wire.specs.Stream as W
use Rattle.zmtp_wire.proofs.FrontLemmas.{fails_flag, none_part}
use Rattle.zmtp_wire.proofs.ReadyFronts.{first_size_part, first_body_part, first_too_long, first_wrong, first_takes}
use Rattle.zmtp_wire.proofs.front.read_ready.Goals as goal

pub returns-in_default-clause-part : goal.returns-in_default-clause-part
returns-in_default-clause-part c = λ g. none_part c.args.role
    (greeted g) c.args.bytes.now c.in_default.ensures.cases

pub returns-then-not-is_allowed-clause-broken : goal.returns-then-not-is_allowed-clause-broken
returns-then-not-is_allowed-clause-broken c = λ g.
    fails_flag c.args.role (greeted g) c.args.at c.args.bytes.now c.in-Some.flag.now c.in-Some.head.now cause.Flags
    c.at.result c.ranges.at.fits c.in-Some.ensures.cases.0
    (W.flags_first g c.in-Some.flag.now (sym c.is_allowed.ensures ∙ c.if-not-is_allowed.true)) c.at.ensures

pub returns-then-not-is_command-clause-broken : goal.returns-then-not-is_command-clause-broken
returns-then-not-is_command-clause-broken c = λ g.
    fails_flag c.args.role (greeted g) c.args.at c.args.bytes.now c.in-Some.flag.now c.in-Some.head.now
    cause.Command c.at-then-not-is_command.result c.ranges.at.fits c.in-Some.ensures.cases.0
    (W.frame_first g c.in-Some.flag.now (sym c.is_allowed.ensures ∙ c.if-not-is_allowed.false)
    (sym c.is_command.ensures ∙ c.if-not-is_command.true)) c.at-then-not-is_command.ensures

pub returns-in_default-read_size-clause-part : goal.returns-in_default-read_size-clause-part
returns-in_default-read_size-clause-part c = λ g.
    first_size_part c.args.role g c.args.bytes.now c.in-Some.flag.now c.in-Some.head.now
    (record {
      spelled = c.in-Some.ensures.cases.0;
      allowed = sym c.is_allowed.ensures
          ∙ c.if-not-is_allowed.false;
      commands = sym c.is_command.ensures ∙ c.if-not-is_command.false;
    })
    c.in_default-read_size.ensures.part

pub returns-then-size-gt-MOST_OCTETS-clause-broken : goal.returns-then-size-gt-MOST_OCTETS-clause-broken
returns-then-size-gt-MOST_OCTETS-clause-broken c = λ g.
    first_too_long c.args.role g c.args.at c.args.bytes.now c.in-Some.flag.now c.in-Some.head.now
    c.in-Some-read_size.size c.size_len.result c.saturating_add-last.result c.in-Some-read_size.rest.now
    c.at-then-size-gt-MOST_OCTETS.result
    (record {
      spelled = c.in-Some.ensures.cases.0;
      allowed = sym c.is_allowed.ensures
          ∙ c.if-not-is_allowed.false;
      commands = sym c.is_command.ensures ∙ c.if-not-is_command.false;
    })
    c.in-Some-read_size.ensures.whole c.if-size-gt-MOST_OCTETS.true
    c.size_len.ensures c.saturating_add-last.ensures c.at-then-size-gt-MOST_OCTETS.ensures

pub returns-then-rest-size-clause-part : goal.returns-then-rest-size-clause-part
returns-then-rest-size-clause-part c = λ g.
    first_body_part c.args.role g c.args.bytes.now c.in-Some.flag.now c.in-Some.head.now c.in-Some-read_size.size
    c.in-Some-read_size.rest.now
    (record {
      spelled = c.in-Some.ensures.cases.0;
      allowed = sym c.is_allowed.ensures
          ∙ c.if-not-is_allowed.false;
      commands = sym c.is_command.ensures ∙ c.if-not-is_command.false;
    })
    c.in-Some-read_size.ensures.whole c.if-size-gt-MOST_OCTETS.false c.if-rest-size.true

pub returns-in-None-clause-whole : goal.returns-in-None-clause-whole
returns-in-None-clause-whole c = λ g.
    first_takes c.args.role g c.args.bytes.now c.in-Some.flag.now c.in-Some.head.now c.in-Some-read_size.size
    c.in-Some-read_size.rest.now c.split_at.result.0.now c.split_at.result.1.now
    (record {
      spelled = c.in-Some.ensures.cases.0;
      allowed = sym c.is_allowed.ensures
          ∙ c.if-not-is_allowed.false;
      commands = sym c.is_command.ensures ∙ c.if-not-is_command.false;
    })
    c.in-Some-read_size.ensures.whole c.if-size-gt-MOST_OCTETS.false
    c.split_at.ensures.by_index.0 c.split_at.ensures.front_len (sym c.handshake_cause.ensures ∙ c.in-None.is)

pub returns-in-Some-handshake_cause-clause-broken : goal.returns-in-Some-handshake_cause-clause-broken
returns-in-Some-handshake_cause-clause-broken c = λ g.
    first_wrong c.args.role g c.args.at c.args.bytes.now c.in-Some.flag.now c.in-Some.head.now
    c.in-Some-read_size.size c.size_len.result c.saturating_add-last.result c.saturating_add.result
    c.in-Some-read_size.rest.now c.split_at.result.0.now
    c.split_at.result.1.now c.in-Some-handshake_cause.cause c.at-in-Some-handshake_cause.result
    (record {
      spelled = c.in-Some.ensures.cases.0;
      allowed = sym c.is_allowed.ensures
          ∙ c.if-not-is_allowed.false;
      commands = sym c.is_command.ensures ∙ c.if-not-is_command.false;
    })
    c.in-Some-read_size.ensures.whole c.if-size-gt-MOST_OCTETS.false
    c.split_at.ensures.by_index.0 c.split_at.ensures.front_len
    (sym c.handshake_cause.ensures ∙ c.in-Some-handshake_cause.is) c.size_len.ensures c.saturating_add-last.ensures
    c.saturating_add.ensures c.at-in-Some-handshake_cause.ensures
