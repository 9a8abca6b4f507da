-- What a kernel hands out that has so many bytes on each channel, and when it ends.
use Rattle.std.specs.Prelude.{◌==◌, ℕ, ℤ, min, nat_lt, replicate, Option, Some, None, pos, if◌then◌else◌}
use Rattle.world.specs.declared.chan.Chan.{Chan}
use Rattle.world.specs.declared.chan.Chan.TheVariants.{Shell, Control, Iopub, Heart}
use Rattle.world.specs.Kernel.{Given, Hands, Waits}

-- the number of a channel, of those of the four in their order
abbrev pub number_on : Chan → ℕ → ℕ → ℕ → ℕ → ℕ
number_on Shell shell control iopub heart = shell
number_on Control shell control iopub heart = control
number_on Iopub shell control iopub heart = iopub
number_on Heart shell control iopub heart = heart

-- as many bytes as are left and have room
abbrev pub pour : ℕ → ℕ → Given
pour left room = if left == 0 then Waits else Hands (replicate (min left room) 7)

-- the exit status of a kernel that ends at this moment, if it does, at a moment
abbrev pub end_by : Option ℕ → ℕ → Option ℤ
end_by None now = None
end_by (Some end) now = if nat_lt now end then None else Some (pos 0)
