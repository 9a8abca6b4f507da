-- What the faults of this crate say where they are printed.
use Rattle.std.specs.Prelude.{ℕ, List, ◌++◌, codes}
use Rattle.kspec.specs.Messages.{message}
use Rattle.kernel_start.specs.declared.kernel_fault.KernelFault.{KernelFault}
use Rattle.kernel_start.specs.declared.kernel_fault.KernelFault.TheVariants as kernel
use Rattle.kernel_start.specs.declared.connection_fault.ConnectionFault.{ConnectionFault}
use Rattle.kernel_start.specs.declared.connection_fault.ConnectionFault.TheVariants as connection
use Rattle.kernel_start.specs.declared.launch_fault.LaunchFault.{LaunchFault}
use Rattle.kernel_start.specs.declared.launch_fault.LaunchFault.TheVariants as launch

-- why no kernel is found
abbrev pub kernel_message : KernelFault → List ℕ
kernel_message kernel.NoName = codes "no name"
kernel_message kernel.BadName = codes "bad name"
kernel_message (kernel.NotRead path) = codes "cannot read " ++ path
kernel_message (kernel.BadSpec f) = message f
kernel_message kernel.NoMemory = codes "out of memory"

-- why a connection file was not written
abbrev pub connection_message : ConnectionFault → List ℕ
connection_message connection.Failed = codes "connection file"
connection_message connection.NoMemory = codes "out of memory"

-- why a kernel's program was not started
abbrev pub launch_message : LaunchFault → List ℕ
launch_message launch.Failed = codes "cannot start the kernel"
launch_message launch.NoMemory = codes "out of memory"
