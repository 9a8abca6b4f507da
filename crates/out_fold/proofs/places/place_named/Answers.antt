use Rattle.out_fold.proofs.PlaceLemmas.{placed-nothing}
use Rattle.out_fold.proofs.places.place_named.Goals as goal

pub returns-else-appends-clause-ok : goal.returns-else-appends-clause-ok
returns-else-appends-clause-ok c = λ calls s. placed-nothing calls c.args.index.now c.args.c.now c.args.cell (cc) s
