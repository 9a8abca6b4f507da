use Rattle.std.proofs.Common.{refl}
use Rattle.out_fold.proofs.StandLemmas.{new-stands-for}
use Rattle.out_fold.proofs.fold.Fold.new.Goals as goal

pub returns-clause-stands : goal.returns-clause-stands
returns-clause-stands c = new-stands-for _ c.in_ok-held.ensures.stands c.new-2.ensures c.new-3.ensures

pub returns-clause-rested : goal.returns-clause-rested
returns-clause-rested c = λ cell e. record { outputs = refl; count = refl; dates = refl }
