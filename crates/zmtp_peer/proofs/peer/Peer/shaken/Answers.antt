use Rattle.std.proofs.Common.{refl}
use Rattle.zmtp_peer.proofs.PeerLemmas.{peer_unstarved, shaken_both}
use Rattle.zmtp_peer.proofs.peer.Peer.shaken.Goals as goal

pub returns-then-is_starved-clause-is : goal.returns-then-is_starved-clause-is
returns-then-is_starved-clause-is c = λ b sent s. absurd (peer_unstarved _ b sent s (c.if-is_starved.ensures.0 refl))

pub returns-clause-is : goal.returns-clause-is
returns-clause-is c = λ b sent s. shaken_both _ b sent _ s (c.shaken.ensures.is b s.contexts s.reads)
