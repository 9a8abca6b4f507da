use Rattle.std.proofs.Common.{◌≡◌, ◌<◌, length, get_or, true, arith, sym, ap, ◌∙◌}
use Rattle.std.specs.Prelude.{eqb}
use lib.Pointwise.{pointwise}
use Rattle.zmtp_peer.proofs.PrefixLemmas.{found}
use Rattle.zmtp_peer.proofs.subscription.place_of.Goals as goal

pub returns-then-eq-clause-some : goal.returns-then-eq-clause-some
returns-then-eq-clause-some c =
    let all = c.as_slice-kept-items.ensures in
    let kept = c.kept-item.result in
    let n : c.loop-i.i < length c.args.prefixes.now = omega (arith, ap length all) in
    let same : pointwise eqb c.args.prefix.now kept ≡ true = ap (pointwise eqb c.args.prefix.now) (sym c.bytes.ensures) ∙ sym c.eq.ensures ∙ c.if-eq.true in
    found c.args.prefix.now kept c.args.prefixes.now c.loop-i.i c.loop-i.invariant n (c.kept-item.is ∙ ap (λ x. get_or x c.loop-i.i kept) all) same
