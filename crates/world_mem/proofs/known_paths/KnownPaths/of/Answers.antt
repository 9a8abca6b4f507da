use Rattle.std.proofs.Common.{◌∙◌, ap, sym, subst, [], length, get_or, take, ◌≡◌, ◌<◌, ◌+◌, arith}
use Rattle.world.specs.Disk.{Place}
use Rattle.world_mem.specs.Folder.{Content}
use Rattle.world_mem.specs.Known.{Known, StandsFor, put_in}
use Rattle.world_mem.proofs.KnownLemmas.{stands_more}
use Rattle.world_mem.proofs.known_paths.KnownPaths.of.Goals as goal

pub loop-path-preserved : goal.loop-path-preserved
loop-path-preserved c =
    let start = c.args.start.now.files.items in
    let items = c.files-path-items.ensures in
    let below : c.loop-path.path-index < length start = omega (arith, ap length items) in
    let file = c.loop-path-item.result in
    let is : file ≡ get_or start c.loop-path.path-index file = c.loop-path-item.is ∙ ap (λ (xs : Content). get_or xs c.loop-path.path-index file) items in
    let put = c.in_ok-known.ensures ∙ ap (λ (p : Place). put_in file.0 p c.loop-path.known.items.items) c.in_ok-state.ensures in
    subst (λ (known : Known). StandsFor (take (c.loop-path.path-index + 1) start) [] known) (sym put) (stands_more start c.loop-path.path-index file _ below is c.loop-path.invariant)
