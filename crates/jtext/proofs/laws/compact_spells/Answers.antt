use Rattle.jtext.proofs.Printed.{compact_text}
use Rattle.jtext.proofs.laws.compact_spells.Goals as goal

pub returns : goal.returns
returns c t s k = compact_text t s k
