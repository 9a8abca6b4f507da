use Rattle.std.proofs.Common.{◌<◌, length, arith, ◌∙◌, ap}
use Rattle.world_mem.specs.Folder.{file_at}
use Rattle.world_mem.proofs.FolderLemmas.{first_below, spared_without}
use Rattle.world_mem.proofs.folder.Folder.remove.Goals as goal

pub remove-requires : goal.remove-requires
remove-requires c =
    let below : c.in-Some.i < length c.loop-i.self.files.items = first_below _ _ _ c.in-Some.ensures in
    omega (arith, c.loop-i.self.files.ok.0)

pub loop-i-preserved : goal.loop-i-preserved
loop-i-preserved c = λ other miss.
    ap (file_at other) c.remove.ensures.items ∙ spared_without _ other _ _ c.in-Some.ensures miss ∙ c.loop-i.invariant other miss
