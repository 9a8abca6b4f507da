use Rattle.jsign.proofs.SignatureLemmas.{signature-length}
use Rattle.jsign.proofs.laws.signature_is_long.Goals as goal

pub returns : goal.returns
returns c = signature-length
