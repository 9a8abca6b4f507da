use Rattle.world_mem.specs.Folder.{Passed}
use Rattle.world_mem.proofs.folder.Folder.place.Given as goal

-- none of the files so far is at the path
abbrev pub invariant-loop-i : goal.invariant-loop-i
invariant-loop-i l = Passed l.path l.self.files.items l.i
