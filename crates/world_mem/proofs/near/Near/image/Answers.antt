use Rattle.std.proofs.Common.{◌≤◌, length, arith}
use Rattle.world_mem.proofs.ImageLemmas.{image_told}
use Rattle.world_mem.proofs.near.Near.image.Goals as goal

pub returns-clause-image : goal.returns-clause-image
returns-clause-image c =
    let below : c.args.t ≤ length c.in-Some.entries.now = omega (arith, c.len.ensures, c.if-t-len.false) in
    image_told _ _ _ _ _ _ _ c.as_slice.ensures below c.in-Some.ensures c.in_ok-image.ensures
