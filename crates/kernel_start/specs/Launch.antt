-- The start of a kernel's program (jupyter_client, "Kernel specs": `argv`, `env`), by its entries, the newest first.
use Rattle.std.specs.Prelude.{◌≡◌, ℕ, Bool, false, List, [], ◌∷◌, ◌++◌, if◌then◌else◌, Result, Ok, Err, codes}
use Rattle.kspec.specs.Arguments.{AreFilled}
use Rattle.world.specs.declared.did.Did.{Did}
use Rattle.world.specs.declared.did.Did.TheVariants as did
use Rattle.world.specs.declared.entry.Entry.{Entry}
use Rattle.world.specs.declared.entry.Entry.TheVariants.{Started}
use Rattle.world.specs.Disk.{is_slash}
use Rattle.kernel_start.specs.declared.kernel.Kernel.{Kernel}
use Rattle.kernel_start.specs.declared.launch_fault.LaunchFault.{LaunchFault}
use Rattle.kernel_start.specs.declared.launch_fault.LaunchFault.TheVariants as fault

-- the path begins at the root (POSIX.1, absolute pathname)
abbrev pub is_absolute : List ℕ → Bool
is_absolute [] = false
is_absolute (c ∷ path) = is_slash c

-- a path from the root, where `here` is the working folder
abbrev pub from_root : List ℕ → List ℕ → List ℕ
from_root here path = if is_absolute path then path else here ++ codes "/" ++ path

-- the child of a job was to be started with the kernel's arguments, for this connection file, which ended so
pub record StartsChild (kernel : Kernel) (number : ℕ) (file cwd : List ℕ) (ended : Did) (before after : List Entry) : Type 0 where
  pub argv : List (List ℕ)
  pub filled : AreFilled file kernel.folder kernel.spec.argv argv
  pub ends : after ≡ Started number argv kernel.spec.env cwd ended ∷ before

-- the start of a kernel, by its answer; nothing is asked for where memory was refused
abbrev pub Launches : {U : Type 0} → Kernel → ℕ → List ℕ → List ℕ → Result U LaunchFault → List Entry → List Entry → Type 0
Launches kernel number file cwd (Ok u) before after = StartsChild kernel number file cwd did.Done before after
Launches kernel number file cwd (Err fault.Failed) before after = StartsChild kernel number file cwd did.Failed before after
Launches kernel number file cwd (Err fault.NoMemory) before after = after ≡ before
