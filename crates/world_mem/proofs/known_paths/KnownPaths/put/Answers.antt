use Rattle.std.proofs.Common.{◌∙◌, ◌<◌, ℕ, List, length, sym, ap, arith}
use Rattle.std.specs.Cmp.Lexicographic.{slice_cmp}
use Rattle.std.specs.Ordering.{nat_cmp}
use Rattle.world.specs.Disk.{Place}
use Rattle.world_mem.specs.Known.{put_in}
use Rattle.world_mem.proofs.KnownLemmas.{put_here, same_item}
use Rattle.world_mem.proofs.known_paths.KnownPaths.put.Goals as goal

pub returns-in-Equal : goal.returns-in-Equal
returns-in-Equal c =
    let items = c.loop-i.self.items.items in
    let below : c.loop-i.i < length items = omega (arith, ap length c.loop-i.invariant.same) in
    let same = same_item items c.loop-i.i _ _ below c.index.ensures c.index_mut.ensures.value in
    let equal = sym (c.in-Equal.ensures ∙ ap (λ (x : List ℕ × Place). slice_cmp nat_cmp c.args.path.now x.0) same) in
    put_here c.args.path.now c.args.state items c.loop-i.i _ below c.index_mut.ensures.value equal c.loop-i.invariant.behind
    ∙ ap (put_in c.args.path.now c.args.state) c.loop-i.invariant.same
