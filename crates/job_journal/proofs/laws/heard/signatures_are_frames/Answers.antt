use Rattle.job_journal.proofs.Signatures.{signature_is, signed_long}
use Rattle.job_journal.proofs.laws.heard.signatures_are_frames.Goals as goal

pub returns : goal.returns
returns c = record {
  frame = signature_is;
  long = signed_long c.signature_is_long.ensures;
}
