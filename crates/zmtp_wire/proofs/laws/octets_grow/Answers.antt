use Rattle.zmtp_wire.proofs.MeaningLemmas.{messages_grow, contexts_grow, shaken_grows, newer_grows, fault_grows, broken_grows}
use Rattle.zmtp_wire.proofs.laws.octets_grow.Goals as goal

pub returns : goal.returns
returns c = record {
  messages = messages_grow;
  contexts = contexts_grow;
  shaken = shaken_grows;
  newer = newer_grows;
  fault = fault_grows;
  broken = broken_grows;
}
