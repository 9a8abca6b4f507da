use Rattle.std.proofs.Common.{◌<◌, length, arith}
use Rattle.world_mem.proofs.FolderLemmas.{first_below, has_first, set_same, appended}
use Rattle.world_mem.proofs.folder.Folder.append.Goals as goal

pub index_mut-requires : goal.index_mut-requires
index_mut-requires c =
    let below : c.in-Some.i < length c.args.self.now.files.items = first_below _ _ _ c.in-Some.ensures in
    omega (arith, c.args.self.now.files.ok.0)

pub returns-in-Ok : goal.returns-in-Ok
returns-in-Ok c = appended _ _ _ _ _ _ c.in-Some.ensures c.index_mut.ensures.value (c.in-Ok.ensures).ok

pub returns-in-Err : goal.returns-in-Err
returns-in-Err c = (has_first _ _ _ c.in-Some.ensures, set_same _ _ _ _ c.index_mut.ensures.value (c.in-Err.ensures).err)
