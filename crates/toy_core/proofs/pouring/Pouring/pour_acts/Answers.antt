use Rattle.std.proofs.Common.{◌++◌, List, ℕ, subst, arith, ap, ◌∙◌, take}
use Rattle.toy_core.specs.Acts.{octets_on}
use Rattle.toy_core.specs.Pouring.{Poured}
use Rattle.toy_core.proofs.Pourings.{octets_more}
use Rattle.toy_core.proofs.pouring.Pouring.pour_acts.Goals as goal

pub loop-act-preserved : goal.loop-act-preserved
loop-act-preserved c = record {
  poured = λ given all w.
      let so_far : List ℕ = all ++ octets_on c.args.on (take c.loop-act.act-index c.args.acts.now) in
      let e = ap (λ x. so_far ++ x) c.octets_of.ensures ∙ octets_more c.args.on c.args.acts.now c.loop-act.act-index c.act-item.result all (omega arith) c.act-item.is in
      subst (λ (x : List ℕ). Poured given x c.pour.new.self c.pour.new.buf) e (c.pour.ensures.poured given _ (c.loop-act.invariant.poured given all w));
  within = c.pour.ensures.within;
}
