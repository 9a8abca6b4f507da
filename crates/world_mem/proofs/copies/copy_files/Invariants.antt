use Rattle.std.proofs.Common.{◌≡◌, take}
use Rattle.world_mem.proofs.copies.copy_files.Given as goal

-- the items so far were copied
abbrev pub invariant-loop-path : goal.invariant-loop-path
invariant-loop-path l = (l.copy ≡ take l.path-index l.path-items) × (l.path-items ≡ l.files)
