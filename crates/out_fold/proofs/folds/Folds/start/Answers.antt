use Rattle.std.proofs.Common.{◌-◌, refl, ap, ◌∙◌, set}
use Rattle.out_fold.proofs.FoldLemmas.{start-stands}
use Rattle.out_fold.proofs.folds.Folds.start.Goals as goal

pub returns-clause-stands : goal.returns-clause-stands
returns-clause-stands c = λ us s.
    start-stands c.args.self.now _ us c.args.cell
    (record {
      next = refl;
      current = c.replace-ended.ensures.after ∙ c.new.ensures;
      put = λ lt. c.put_back.ensures.some lt ∙ ap (λ x. set c.args.self.now.cells (c.args.self.now.next - 1) x) c.replace-ended.ensures.value;
      same = c.put_back.ensures.none;
      latest = refl;
      within = c.args.self.now.within;
      len = c.put_back.ensures.len;
    })
    c.requires.above s
