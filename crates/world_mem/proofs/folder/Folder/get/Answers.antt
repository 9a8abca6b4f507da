use Rattle.std.proofs.Common.{◌<◌, length, sym, arith}
use Rattle.world_mem.proofs.FolderLemmas.{first_at, first_below}
use Rattle.world_mem.proofs.folder.Folder.get.Goals as goal

pub index-requires : goal.index-requires
index-requires c =
    let below : c.in_ok-i.i < length c.args.self.now.files.items = first_below _ _ _ c.in_ok-i.ensures in
    omega (arith, c.args.self.now.files.ok.0)

pub returns : goal.returns
returns c = sym (first_at _ _ _ _ c.in_ok-i.ensures c.index.ensures)
