use Rattle.zmtp_peer.proofs.SendingLemmas.{sent_gives, sent_bodies}
use Rattle.zmtp_peer.proofs.laws.sent_is_read.Goals as goal

pub returns : goal.returns
returns c = record { gives = sent_gives; bodies = sent_bodies }
