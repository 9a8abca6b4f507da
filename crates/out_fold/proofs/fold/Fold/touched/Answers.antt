use Rattle.std.proofs.Common.{refl}
use Rattle.out_fold.proofs.StandLemmas.{touched-below}
use Rattle.out_fold.proofs.fold.Fold.touched.Goals as goal

pub returns-clause-below : goal.returns-clause-below
returns-clause-below c = λ us s. touched-below c.args.self.now us c.args.self.now.touched refl s
