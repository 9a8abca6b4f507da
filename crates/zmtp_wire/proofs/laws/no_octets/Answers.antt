use Rattle.zmtp_wire.proofs.MeaningLemmas.{messages_none, contexts_none, shaken_none, fault_none}
use Rattle.zmtp_wire.proofs.laws.no_octets.Goals as goal

pub returns : goal.returns
returns c = record { messages = messages_none; contexts = contexts_none; shaken = shaken_none; fault = fault_none }
