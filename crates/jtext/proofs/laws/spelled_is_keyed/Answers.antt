use Rattle.jtext.proofs.SpelledKeyed.{spells_keyed}
use Rattle.jtext.proofs.laws.spelled_is_keyed.Goals as goal

pub returns : goal.returns
returns c t b s = spells_keyed t b s
