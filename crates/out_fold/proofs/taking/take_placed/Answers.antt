use Rattle.jtext.proofs.Lists.{on_err}
use Rattle.out_fold.proofs.PlaceLemmas.{placed-grown, placed-settled}
use Rattle.out_fold.proofs.taking.take_placed.Goals as goal

pub returns-in_err-take-clause-grown : goal.returns-in_err-take-clause-grown
returns-in_err-take-clause-grown c = on_err c.from_residual-in_err-take.result (λ calls s. placed-grown calls c.place.new.index c.args.c.now c.args.cell (c.in_ok-place.ensures.ok calls s))

pub returns-clause-settled : goal.returns-clause-settled
returns-clause-settled c = λ calls s. placed-settled calls c.place.new.index c.settle.new.index c.args.c.now c.args.cell (c.in_ok-place.ensures.ok calls s) c.settle.ensures
