use Rattle.std.proofs.Common.{ℕ, Bor, List, [], refl, sym, subst, arith}
use Rattle.std.proofs.lemmas.List.{take_all}
use Rattle.jtext.proofs.KeyOrder.{Listed, none, listed_more, places_sorted, order_total}
use Rattle.jtext.proofs.sorted.places_by_key.Goals as goal

pub loop-i-init : goal.loop-i-init
loop-i-init c = subst (Listed (λ x. x.0.now) (λ x. x.1) 0 []) (sym c.new-places.ensures.items) (none 0)

pub loop-i-preserved : goal.loop-i-preserved
loop-i-preserved c =
    listed_more (λ x. x.0.now) (λ x. x.1) c.args.pairs.now c.loop-i.places.items c.push.new.self.items c.loop-i.i c.index-pairs-i.result (c.as_str.result, c.loop-i.i) c.loop-i.invariant
    (omega arith) c.index-pairs-i.is c.as_str.ensures refl c.in_ok-push.ensures.items

pub returns : goal.returns
returns c =
    let listed = subst (λ l. Listed {X = Bor (List ℕ) × ℕ} (λ x. x.0.now) (λ x. x.1) 0 l c.loop-i.places.items) (take_all c.loop-i.i c.args.pairs.now (omega arith)) c.loop-i.invariant in
    places_sorted _ (λ x. x.0.now) (λ x. x.1) (λ x y. refl) order_total c.args.pairs.now c.loop-i.places.items c.sort.new.self.items listed c.in_ok-sort.ensures.permutation c.in_ok-sort.ensures.sorted
