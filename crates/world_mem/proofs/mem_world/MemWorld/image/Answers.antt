use Rattle.world_mem.specs.Near.{journal_of}
use Rattle.world_mem.proofs.AllowedLemmas.{image_allowed}
use Rattle.world_mem.proofs.KnownLemmas.{ok_as}
use Rattle.world_mem.proofs.mem_world.MemWorld.image.Goals as goal

pub returns-clause-leaves : goal.returns-clause-leaves
returns-clause-leaves g c =
    let near = c.args.self.now.near in
    ok_as c.image.result c.image.ensures.image (λ files so. image_allowed (journal_of near) near.start.files.items files c.args.t c.args.choice so)
