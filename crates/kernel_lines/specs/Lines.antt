-- The four connections to a kernel (Jupyter messaging 5.3, "Introduction").
use Rattle.std.specs.Prelude.{◌≡◌, ◌≢◌, Bool, ◌&&◌}
use Rattle.world.specs.declared.chan.Chan.{Chan}
use Rattle.world.specs.declared.chan.Chan.TheVariants as chan
use Rattle.zmtp_wire.specs.declared.role.Role.{Role}
use Rattle.zmtp_wire.specs.declared.role.Role.TheVariants as role
use Rattle.zmtp_wire.specs.Meaning.{is_shaken}
use Rattle.kernel_lines.specs.declared.line.Line.{Line}
use Rattle.kernel_lines.specs.Happened.{History, came_in}
use Rattle.kernel_lines.specs.Due.{subscription_end}
use Rattle.kernel_lines.specs.Line.{role_of, taken_of, clip_place, is_within}
use Rattle.kernel_lines.specs.declared.lines.Lines.{Lines}

-- the connection to this channel
abbrev pub line_on : Lines → Chan → Line
line_on ls chan.Shell = ls.shell
line_on ls chan.Control = ls.control
line_on ls chan.Iopub = ls.iopub
line_on ls chan.Heart = ls.heart

-- the socket that speaks to a channel (jupyter_client)
abbrev pub role_on : Chan → Role
role_on chan.Shell = role.Dealer
role_on chan.Control = role.Dealer
role_on chan.Iopub = role.Sub
role_on chan.Heart = role.Req

-- the other connections are as they were
abbrev pub OthersStay : Chan → Lines → Lines → Type 0
OthersStay on old new = (c : Chan) → c ≢ on → line_on new c ≡ line_on old c

-- The kernel can be asked: the handshakes on shell and IOPub are finished, and the subscription was taken, so that what it
-- publishes reaches us (Jupyter messaging 5.3, "Kernel info"; jupyter_client's `wait_for_ready`).
abbrev pub can_ask : Lines → History → History → Bool
can_ask ls shell iopub =
    is_shaken (role_of ls.shell) (came_in shell) && is_shaken (role_of ls.iopub) (came_in iopub)
    && is_within (clip_place (subscription_end (role_of ls.iopub) iopub)) (taken_of ls.iopub)
