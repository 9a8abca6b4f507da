use Rattle.zmtp_peer.proofs.OwedLemmas.{owes, owes_only, owed_grows, owed_none}
use Rattle.zmtp_peer.proofs.laws.owed_is_given.Goals as goal

pub returns : goal.returns
returns c = record { owes = owes; only = owes_only; grows = owed_grows; none = owed_none }
