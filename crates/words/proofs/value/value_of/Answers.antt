use Rattle.words.proofs.NumberTests.{means}
use Rattle.words.proofs.value.value_of.Goals as goal

pub returns-clause-means : goal.returns-clause-means
returns-clause-means c = means c.args.t.now c.value_of_word.result c.value_of_word.ensures
