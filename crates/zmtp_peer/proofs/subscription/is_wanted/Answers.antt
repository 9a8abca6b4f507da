use Rattle.std.proofs.Common.{◌≡◌, ◌<◌, ◌≤◌, length, get_or, true, false, nat_eq, arith, sym, ap, ◌∙◌}
use Rattle.std.specs.List.{starts_with}
use Rattle.zmtp_peer.proofs.PrefixLemmas.{wanted_here, wanted_later, wanted_none, yes, no}
use Rattle.zmtp_peer.proofs.subscription.is_wanted.Goals as goal

pub returns-then-starts_with : goal.returns-then-starts_with
returns-then-starts_with c =
    let all = c.as_slice-prefix-items.ensures in
    let p = c.prefix-item.result in
    let i = c.loop-prefix.prefix-index in
    let n : i < length c.args.prefixes.now = omega (arith, ap length all) in
    let s : starts_with nat_eq c.args.topic.now p ≡ true = ap (starts_with nat_eq c.args.topic.now) (sym c.bytes.ensures) ∙ sym c.starts_with.ensures.value ∙ c.if-starts_with.true in
    let w = wanted_here c.args.prefixes.now c.args.topic.now p i n (c.prefix-item.is ∙ ap (λ x. get_or x i p) all) s in
    (λ t. w, λ k. yes)

pub loop-prefix-preserved : goal.loop-prefix-preserved
loop-prefix-preserved c = λ w.
    let p = c.prefix-item.result in
    let i = c.loop-prefix.prefix-index in
    let items = c.as_slice-prefix-items.result.now in
    let n : i < length items = omega arith in
    let s : starts_with nat_eq c.args.topic.now p ≡ false = ap (starts_with nat_eq c.args.topic.now) (sym c.bytes.ensures) ∙ sym c.starts_with.ensures.value ∙ c.if-starts_with.false in
    wanted_later items c.args.topic.now p i n c.prefix-item.is s (c.loop-prefix.invariant w)

pub returns : goal.returns
returns c =
    let items = c.as_slice-prefix-items.result.now in
    let end : length items ≤ c.loop-prefix.prefix-index = omega arith in
    (λ t. absurd (no t), λ w. absurd (wanted_none items c.args.topic.now c.loop-prefix.prefix-index end (c.loop-prefix.invariant w)))
