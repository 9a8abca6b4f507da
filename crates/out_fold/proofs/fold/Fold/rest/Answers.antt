use Rattle.std.proofs.Common.{refl}
use Rattle.out_fold.proofs.StandLemmas.{rested-stands-for}
use Rattle.out_fold.proofs.fold.Fold.rest.Goals as goal

pub returns-clause-stands : goal.returns-clause-stands
returns-clause-stands c = λ us s. rested-stands-for c.args.self.now _ us refl refl c.new.ensures s

pub returns-clause-rested : goal.returns-clause-rested
returns-clause-rested c = λ us cell e. record { outputs = refl; count = refl; dates = refl }
