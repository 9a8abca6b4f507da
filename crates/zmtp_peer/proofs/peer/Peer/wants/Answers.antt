use Rattle.std.proofs.Common.{refl}
use Rattle.zmtp_peer.proofs.PeerLemmas.{peer_unstarved, wanted_both}
use Rattle.zmtp_peer.proofs.peer.Peer.wants.Goals as goal

pub returns-then-is_starved-clause-is : goal.returns-then-is_starved-clause-is
returns-then-is_starved-clause-is c = λ b sent s. absurd (peer_unstarved _ b sent s (c.if-is_starved.ensures.0 refl))

pub returns-clause-is : goal.returns-clause-is
returns-clause-is c = λ b sent s. wanted_both _ b sent c.args.topic.now _ s c.is_wanted.ensures
