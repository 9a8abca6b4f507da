use Rattle.world.proofs.MomentsLemmas.{told_as}
use Rattle.kernel_start.proofs.WordLaws.{draws_part, draws_spare}
use Rattle.kernel_start.proofs.random_words.random_pairs.Goals as goal

pub returns-clause-part : goal.returns-clause-part
returns-clause-part g c = told_as c.drawn_pairs.ensures.entries (draws_part c.drawn_pairs.result)

pub returns-clause-others : goal.returns-clause-others
returns-clause-others g c path = told_as c.drawn_pairs.ensures.entries (draws_spare path c.drawn_pairs.result)
