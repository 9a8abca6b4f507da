use Rattle.std.proofs.Common.{◌≡◌, ℕ, List, false, vec_len}
use Rattle.std.specs.Str.{bytes_eq}
use Rattle.world_mem.specs.Folder.{file_at}
use Rattle.world_mem.proofs.folder.Folder.remove.Given as goal

-- no other file has changed
abbrev pub invariant-loop-i : goal.invariant-loop-i
invariant-loop-i l = (other : List ℕ) → bytes_eq l.path other ≡ false → file_at other l.self.files.items ≡ file_at other l.initial.self.files.items

abbrev pub decreases-loop-i : goal.decreases-loop-i
decreases-loop-i l = vec_len l.self.files
