use Rattle.out_fold.proofs.FitCells.{dates_are, dates_are_texts}
use Rattle.out_fold.proofs.laws.dates_fit.Goals as goal

pub returns-clause-texts : goal.returns-clause-texts
returns-clause-texts c us cell = dates_are_texts us cell

pub returns-clause-keyed : goal.returns-clause-keyed
returns-clause-keyed c us cell = (dates_are us cell).keyed

pub returns-clause-within : goal.returns-clause-within
returns-clause-within c us cell = (dates_are us cell).within
