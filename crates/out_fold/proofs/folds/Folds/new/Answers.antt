use Rattle.std.proofs.Common.{refl}
use Rattle.out_fold.proofs.FoldLemmas.{new-stands}
use Rattle.out_fold.proofs.folds.Folds.new.Goals as goal

pub returns-clause-stands : goal.returns-clause-stands
returns-clause-stands c = new-stands _ refl c.loop-made.invariant.1
