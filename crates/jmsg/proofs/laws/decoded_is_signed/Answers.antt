use Rattle.jmsg.proofs.DecodingLemmas.{verdict_true, verdict_alone, decoded_signed, signed_decoded}
use Rattle.jmsg.proofs.laws.decoded_is_signed.Goals as goal

pub returns : goal.returns
returns c = record { verdict = verdict_true; only_verdict = verdict_alone; message = decoded_signed; only_message = signed_decoded }
