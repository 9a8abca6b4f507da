use Rattle.std.proofs.Common.{inl, refl, sym, ◌∙◌, arith}
use Rattle.jtext.proofs.Lists.{on_err}
use Rattle.out_fold.specs.Stands.{merge_of}
use Rattle.progress_save.specs.Prefix.{settled_cell}
use Rattle.progress_save.proofs.SettledCells.{none_changed, settle_more, part_way}
use Rattle.progress_save.proofs.settling.settle.Goals as goal

pub loop-i-init : goal.loop-i-init
loop-i-init c = record {
  cells = λ us stands are. sym (none_changed (settled_cell (merge_of c.args.f.now) us c.args.step.stop) 0 0 c.args.n.now.cells (omega arith));
  count = refl;
  metadata = refl;
}

pub loop-i-preserved : goal.loop-i-preserved
loop-i-preserved c = record {
  cells = λ us stands are. settle_more (settled_cell (merge_of c.args.f.now) us c.args.step.stop) c.loop-i.i c.args.n.now.cells c.loop-i.n.cells c.settle_where.new.cells
      (c.loop-i.invariant.cells us stands are)
      (omega (arith, c.requires.cells, c.loop-i-test.true))
      (λ x was at. c.in_ok-settle_where.ensures.settled us x stands at (are c.loop-i.i x was));
  count = c.in_ok-settle_where.ensures.count ∙ c.loop-i.invariant.count;
  metadata = c.loop-i.invariant.metadata;
}

pub returns-in_err-settle_where-clause-refused : goal.returns-in_err-settle_where-clause-refused
returns-in_err-settle_where-clause-refused c = on_err c.from_residual.result (λ us stands are. record {
  metadata = inl c.loop-i.invariant.metadata;
  cells = part_way (settled_cell (merge_of c.args.f.now) us c.args.step.stop) c.loop-i.i c.args.step.to c.args.n.now.cells c.settle_where.new.cells
      (c.in_err-settle_where.ensures.refused ∙ c.loop-i.invariant.cells us stands are)
      (omega (arith, c.loop-i-test.true));
})
