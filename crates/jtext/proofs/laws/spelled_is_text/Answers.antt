use Rattle.jtext.proofs.LooseSplits.{loose_text}
use Rattle.jtext.proofs.Texts.{spells_text}
use Rattle.jtext.proofs.laws.spelled_is_text.Goals as goal

pub returns : goal.returns
returns c t b is = loose_text b (spells_text t b is)
