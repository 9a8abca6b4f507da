use Rattle.out_fold.proofs.PlaceLemmas.{placed-unnamed}
use Rattle.out_fold.proofs.places.place.Goals as goal

pub returns-in-None-clause-ok : goal.returns-in-None-clause-ok
returns-in-None-clause-ok c = λ calls s. placed-unnamed calls c.args.index.now c.args.c.now c.args.cell (cc) s
