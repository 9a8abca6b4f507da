use Rattle.out_fold.proofs.fold.Fold.dates.Goals as goal

pub returns : goal.returns
returns c = λ us s. c.dates.ensures us s.held
