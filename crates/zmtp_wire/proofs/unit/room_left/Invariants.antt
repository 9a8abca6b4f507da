use Rattle.std.proofs.Common.{◌≡◌, drop}
use Rattle.zmtp_wire.specs.Frame.{MOST}
use Rattle.zmtp_wire.specs.Machine.{room_left}
use Rattle.zmtp_wire.proofs.unit.room_left.Given as goal

abbrev pub invariant-loop-frame : goal.invariant-loop-frame
invariant-loop-frame l = room_left l.room (drop l.frame-index l.frame-items) ≡ room_left MOST l.frames
