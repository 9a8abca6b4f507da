-- What a refused save of a prefix says where it is printed.
use Rattle.std.specs.Prelude.{ℕ, List, codes}
use Rattle.jtext.specs.Messages.{memory_message}
use Rattle.save_disk.specs.Messages as saves
use Rattle.progress_save.specs.declared.progress_fault.ProgressFault.{ProgressFault}
use Rattle.progress_save.specs.declared.progress_fault.ProgressFault.TheVariants as fault

-- why the save was refused
abbrev pub message : ProgressFault → List ℕ
message (fault.Save f) = saves.message f
message fault.Closed = codes "an earlier save failed"
message fault.NoMemory = memory_message
