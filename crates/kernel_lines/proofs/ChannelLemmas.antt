-- What holds of the connection to one channel.
use Rattle.std.proofs.Common.{◌≡◌, sym, subst}
use Rattle.world.specs.declared.chan.Chan.{Chan}
use Rattle.world.specs.declared.chan.Chan.TheVariants as chan
use Rattle.kernel_lines.specs.declared.line.Line.{Line}
use Rattle.kernel_lines.specs.declared.lines.Lines.{Lines}
use Rattle.kernel_lines.specs.Lines.{line_on}

-- what relates the connections to the channel that is meant relates those to the channel that is named
pub on_channel : (old new : Lines) (named meant : Chan) (R : Line → Line → Type 0) → named ≡ meant → R (line_on old meant) (line_on new meant)
    → R (line_on old named) (line_on new named)
on_channel old new named meant R is r = subst (λ x. R (line_on old x) (line_on new x)) (sym is) r

-- what holds of each connection holds of that to each channel
pub on_every_channel : (P : Line → Type 0) (ls : Lines) → P ls.shell → P ls.control → P ls.iopub → P ls.heart → (c : Chan) → P (line_on ls c)
on_every_channel P ls shell control iopub heart chan.Shell = shell
on_every_channel P ls shell control iopub heart chan.Control = control
on_every_channel P ls shell control iopub heart chan.Iopub = iopub
on_every_channel P ls shell control iopub heart chan.Heart = heart
