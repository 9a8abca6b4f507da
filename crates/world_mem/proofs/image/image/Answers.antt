use Rattle.std.proofs.Common.{◌<◌, ◌≤◌, arith, length, reverse, subst, sym}
use Rattle.world_mem.specs.Known.{Known, StandsFor}
use Rattle.world_mem.proofs.ImageLemmas.{picked_step, picked_all, none_behind}
use Rattle.world_mem.proofs.image.image.Goals as goal

pub loop-path-preserved : goal.loop-path-preserved
loop-path-preserved c =
    let so = subst (λ (known : Known). StandsFor c.args.start.now.files.items (reverse c.args.entries.now) known) (sym c.items-path-items.ensures) c.in_ok-known.ensures in
    let below : c.loop-path.path-index < length c.items-path-items.result.now = omega arith in
    picked_step _ _ so below c.loop-path-item.is c.get.ensures c.in_ok-picked.ensures.bytes c.in_ok-picked.ensures.rest c.in_ok-keep.ensures c.loop-path.invariant

pub returns : goal.returns
returns c =
    let so = subst (λ (known : Known). StandsFor c.args.start.now.files.items (reverse c.args.entries.now) known) (sym c.items-path-items.ensures) c.in_ok-known.ensures in
    let end : length c.items-path-items.result.now ≤ c.loop-path.path-index = omega arith in
    picked_all _ _ _ _ _ so (none_behind c.args.start.now.files.items (reverse c.args.entries.now) c.items-path-items.result.now c.loop-path.path-index c.loop-path.rest _ _ end c.loop-path.invariant)
