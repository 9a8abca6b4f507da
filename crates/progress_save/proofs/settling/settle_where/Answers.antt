use Rattle.std.proofs.Common.{sym, ap, ◌∙◌, set}
use Rattle.jtext.proofs.Lists.{set_given}
use Rattle.out_fold.specs.Stands.{merge_of}
use Rattle.progress_save.specs.Prefix.{settled_cell}
use Rattle.progress_save.proofs.settling.settle_where.Goals as goal

pub returns-then-stays-clause-settled : goal.returns-then-stays-clause-settled
returns-then-stays-clause-settled c = λ us x stands at is.
    let so = c.stays.ensures c.if-stays.true in
    sym (ap (λ y. set c.args.cells.now c.args.i y) (is so.0 so.1 so.2) ∙ set_given c.args.cells.now c.args.i x at)
