use Rattle.out_fold.proofs.fold.Fold.outputs.Goals as goal

pub returns : goal.returns
returns c = λ us s. c.outputs.ensures us s.held
