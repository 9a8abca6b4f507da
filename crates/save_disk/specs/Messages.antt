-- What a failed save says where it is printed: the step that failed.
use Rattle.std.specs.Prelude.{ℕ, List, codes}
use Rattle.save_disk.specs.declared.save_fault.SaveFault.{SaveFault}
use Rattle.save_disk.specs.declared.save_fault.SaveFault.TheVariants as fault

-- the step that failed
abbrev pub message : SaveFault → List ℕ
message fault.Write = codes "write"
message fault.Sync = codes "sync"
message fault.Rename = codes "rename"
message fault.DirSync = codes "directory sync"
