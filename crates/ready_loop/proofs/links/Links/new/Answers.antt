use Rattle.std.proofs.Common.{arith, ◌≡◌, ℕ, subst, List, sym}
use Rattle.ready_loop.proofs.KeyLemmas.{AllFresh, fresh_links, fresh_held}
use Rattle.ready_loop.specs.Table.{AllApart, AllSteady}
use Rattle.ready_loop.specs.declared.link.Link.{Link}
use Rattle.ready_loop.proofs.BegunLemmas.{all_fresh}
use Rattle.ready_loop.proofs.links.Links.new.Goals as goal

pub returns : goal.returns
returns c =
    let n : c.loop-place.place ≡ 64 = omega (arith, c.loop-place.auto.place-end) in
    fresh_links c.loop-place.slab c.loop-place.keys c.loop-place.invariant.size (subst (λ (n : ℕ). AllFresh n c.loop-place.slab c.loop-place.keys) n c.loop-place.invariant.fresh)

pub invariant_of-result : goal.invariant_of-result
invariant_of-result c =
    let n : c.loop-place.place ≡ 64 = omega (arith, c.loop-place.auto.place-end) in
    let fresh : AllFresh 64 c.loop-place.slab c.loop-place.keys = subst (λ (n : ℕ). AllFresh n c.loop-place.slab c.loop-place.keys) n c.loop-place.invariant.fresh in (
      fresh_held c.loop-place.slab c.loop-place.keys fresh,
      subst (λ (n : ℕ). AllApart n c.loop-place.keys) n c.loop-place.invariant.apart,
      c.loop-place.invariant.size,
      subst (λ (ls : List Link). AllSteady ls) (sym (fresh_links c.loop-place.slab c.loop-place.keys c.loop-place.invariant.size fresh)) (all_fresh 64),
    )
