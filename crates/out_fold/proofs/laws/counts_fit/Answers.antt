use Rattle.out_fold.proofs.FitCells.{counts_are_fit}
use Rattle.out_fold.proofs.laws.counts_fit.Goals as goal

pub returns : goal.returns
returns c us cell all = counts_are_fit us cell all
