use Rattle.std.proofs.Common.{arith, sym, ◌∙◌}
use Rattle.zmtp_wire.proofs.GreetingFronts.{greets_none, greets_more, greets_part, greets_wrong, greets_whole}
use Rattle.zmtp_wire.proofs.GreetingFronts.{greets_len}
use Rattle.zmtp_wire.proofs.front.read_greeting.Goals as goal

pub loop-i-init : goal.loop-i-init
loop-i-init c = greets_none c.args.bytes.now

pub returns-in_default-clause-part : goal.returns-in_default-clause-part
returns-in_default-clause-part c = λ r. greets_part r c.args.bytes.now c.loop-i.i c.loop-i.rest.now
    c.loop-i.invariant c.loop-i-test.true c.in_default.ensures.cases

pub returns-then-not-passes-clause-broken : goal.returns-then-not-passes-clause-broken
returns-then-not-passes-clause-broken c = λ r.
    greets_wrong r c.args.bytes.now c.loop-i.i c.loop-i.rest.now c.in-Some.octet.now c.in-Some.after.now
    c.greeting_cause.result c.at.result c.loop-i.invariant c.loop-i-test.true c.in-Some.ensures.cases.0
    (sym c.passes.ensures ∙ c.if-not-passes.true)
    c.greeting_cause.ensures c.at.ensures

pub loop-i-preserved : goal.loop-i-preserved
loop-i-preserved c = greets_more c.args.bytes.now c.loop-i.i c.loop-i.rest.now c.in-Some.octet.now
    c.in-Some.after.now c.loop-i.invariant c.loop-i-test.true c.in-Some.ensures.cases.0
    (sym c.passes.ensures ∙ c.if-not-passes.false)

pub split_at-requires : goal.split_at-requires
split_at-requires c = let l = greets_len c.args.bytes.now c.loop-i.i c.loop-i.rest.now c.loop-i.invariant in let t
    = c.loop-i-test.false in omega arith

pub returns-clause-whole : goal.returns-clause-whole
returns-clause-whole c = λ r. greets_whole r c.args.bytes.now c.loop-i.i c.loop-i.rest.now c.split_at.result.0.now
    c.speaks.result c.loop-i.invariant (λ h. let t = c.loop-i-test.false in absurd (omega arith))
    c.split_at.ensures.front c.speaks.ensures
