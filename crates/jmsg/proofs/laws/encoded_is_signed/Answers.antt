use Rattle.jmsg.proofs.MessageLemmas.{sent_message}
use Rattle.jmsg.proofs.laws.encoded_is_signed.Goals as goal

pub returns : goal.returns
returns c key m s = sent_message key m c.compact_spells.ensures s
