use Rattle.out_fold.proofs.fold.Fold.count.Goals as goal

pub returns : goal.returns
returns c = λ us s. c.count.ensures us s.held
