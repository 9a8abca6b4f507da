use Rattle.std.proofs.Common.{subst, sym}
use Rattle.world.specs.Moments.{Told}
use Rattle.world.proofs.MomentsLemmas.{told_then}
use Rattle.kernel_start.specs.RandomWords.{DrawsPair}
use Rattle.kernel_start.proofs.WordLaws.{second_fails}
use Rattle.kernel_start.proofs.random_words.drawn_pair.Goals as goal

pub returns-in_err-second-clause-entries : goal.returns-in_err-second-clause-entries
returns-in_err-second-clause-entries g c =
    subst (λ o. Told (g.W.Journal.journal c.args.w.now) (g.W.Journal.journal c.word-2.new.self) (DrawsPair o)) (sym c.from_residual-in_err-second.ensures)
    (told_then c.in_ok-first.ensures.tells c.in_err-second.ensures.tells (second_fails c.in_ok-first.first))
