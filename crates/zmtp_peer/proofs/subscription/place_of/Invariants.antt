use Rattle.std.proofs.Common.{◌≡◌, ◌++◌, take, drop}
use Rattle.zmtp_peer.specs.Subscription.{without}
use Rattle.zmtp_peer.proofs.subscription.place_of.Given as goal

abbrev pub invariant-loop-i : goal.invariant-loop-i
invariant-loop-i l = without l.prefix l.prefixes ≡ take l.i l.prefixes ++ without l.prefix (drop l.i l.prefixes)
