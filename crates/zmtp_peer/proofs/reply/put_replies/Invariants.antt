use Rattle.std.proofs.Common.{◌≡◌, ◌++◌, drop}
use Rattle.zmtp_peer.specs.Reply.{pongs}
use Rattle.zmtp_peer.proofs.reply.put_replies.Given as goal

abbrev pub invariant-loop-context : goal.invariant-loop-context
invariant-loop-context l = l.octets ++ pongs (drop l.context-index l.context-items) ≡ l.subscription ++ pongs l.contexts
