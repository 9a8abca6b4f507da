-- What the faults of a world in memory say of themselves.
use Rattle.std.specs.Prelude.{ℕ, List, codes}
use Rattle.world_mem.specs.declared.image_fault.ImageFault.{ImageFault}
use Rattle.world_mem.specs.declared.image_fault.ImageFault.TheVariants.{NotTold, Past, NoMemory}

-- the text of a fault
abbrev pub message : ImageFault → List ℕ
message NotTold = codes "the journal is not told"
message Past = codes "past the journal"
message NoMemory = codes "out of memory"
