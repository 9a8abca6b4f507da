use Rattle.out_fold.proofs.FitCells.{outputs_are_fit, outputs_are_within}
use Rattle.out_fold.proofs.laws.outputs_fit.Goals as goal

pub returns-clause-fit : goal.returns-clause-fit
returns-clause-fit c merge us cell all = outputs_are_fit merge us cell all

pub returns-clause-within : goal.returns-clause-within
returns-clause-within c merge us cell all = outputs_are_within merge us cell all
