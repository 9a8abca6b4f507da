use Rattle.kernel_lines.specs.Happened.{came_in}
use Rattle.kernel_lines.specs.Line.{role_of}
use Rattle.kernel_lines.proofs.LineLemmas.{shaken_is}
use Rattle.zmtp_peer.specs.Reply.{owed_octets}
use Rattle.kernel_lines.proofs.line.Line.is_shaken.Goals as goal

pub returns : goal.returns
returns c = λ h out s.
    let r = role_of c.args.self.now in
    let b = came_in h in
    shaken_is r b c.shaken.result (c.shaken.ensures.is b (owed_octets r b) s.peer)
