use Rattle.std.proofs.Common.{refl}
use Rattle.out_fold.proofs.StandLemmas.{begun-stands-for, begun-rested}
use Rattle.out_fold.proofs.fold.Fold.start.Goals as goal

pub returns-clause-stands : goal.returns-clause-stands
returns-clause-stands c = λ us s. begun-stands-for c.args.self.now _ us c.args.cell (c.start.ensures.stands us s.held) refl refl c.start.ensures.cells s

pub returns-clause-rested : goal.returns-clause-rested
returns-clause-rested c = λ was us r. begun-rested c.args.self.now _ was us c.args.cell c.start.ensures.merge r
