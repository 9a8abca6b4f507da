use Rattle.jtext.proofs.IndentedSpells.{indented_text}
use Rattle.jtext.proofs.laws.indented_spells.Goals as goal

pub returns : goal.returns
returns c t s k = indented_text t s k
