use Rattle.zmtp_wire.proofs.WritingLemmas.{octets_join, messages_join, contexts_join, writable_join, message_octets_of, messages_of}
use Rattle.zmtp_wire.proofs.laws.writings_join.Goals as goal

pub returns : goal.returns
returns c = record {
  octets = octets_join;
  messages = messages_join;
  contexts = contexts_join;
  writable = writable_join;
  all_octets = message_octets_of;
  all_messages = messages_of;
}
