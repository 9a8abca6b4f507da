use Rattle.std.proofs.Common.{drop}
use Rattle.zmtp_peer.specs.Subscription.{IsWanted}
use Rattle.zmtp_peer.proofs.subscription.is_wanted.Given as goal

abbrev pub invariant-loop-prefix : goal.invariant-loop-prefix
invariant-loop-prefix l = IsWanted l.prefixes l.topic → IsWanted (drop l.prefix-index l.prefix-items) l.topic
