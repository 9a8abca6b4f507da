use Rattle.std.proofs.Common.{subst, sym}
use Rattle.world.specs.Moments.{Told}
use Rattle.world.proofs.MomentsLemmas.{told_then}
use Rattle.kernel_start.specs.RandomWords.{Draws}
use Rattle.kernel_start.proofs.WordLaws.{key_fails}
use Rattle.kernel_start.proofs.random_words.drawn_pairs.Goals as goal

pub returns-in_err-key-clause-entries : goal.returns-in_err-key-clause-entries
returns-in_err-key-clause-entries g c =
    subst (λ o. Told (g.W.Journal.journal c.args.w.now) (g.W.Journal.journal c.drawn_pair-2.new.w) (Draws o)) (sym c.from_residual-in_err-key.ensures)
    (told_then c.in_ok-name.ensures.entries c.in_err-key.ensures.entries (key_fails c.in_ok-name.name))
