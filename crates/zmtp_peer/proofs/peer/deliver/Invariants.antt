use Rattle.std.proofs.Common.{◌≡◌, ◌++◌}
use Rattle.zmtp_peer.specs.Envelope.{bodies_of}
use Rattle.zmtp_peer.specs.Subscription.{prefixes_after}
use Rattle.zmtp_peer.proofs.peer.deliver.Given as goal

abbrev pub invariant-loop-message : goal.invariant-loop-message
invariant-loop-message l = record {
  bodies : l.out ≡ l.initial.out ++ bodies_of l.role l.yielded;
  prefixes : l.prefixes ≡ prefixes_after l.role l.initial.prefixes l.yielded;
}
