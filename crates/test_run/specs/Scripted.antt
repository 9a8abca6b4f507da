-- What a kernel behind a script hands out.
use Rattle.world.specs.declared.chan.Chan.{Chan}
use Rattle.world.specs.declared.chan.Chan.TheVariants.{Shell, Control, Iopub, Heart}

-- what the queue of a channel has, of those of the four channels in their order
abbrev pub on : {Queue Kind : Type 0} → Chan → Queue → Queue → Queue → Queue → (Queue → Kind) → Kind
on Shell shell control iopub heart kind = kind shell
on Control shell control iopub heart kind = kind control
on Iopub shell control iopub heart kind = kind iopub
on Heart shell control iopub heart kind = kind heart
