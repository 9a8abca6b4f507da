use Rattle.std.proofs.Common.{◌≡◌, List, length}
use Rattle.out_fold.specs.declared.used.Used.{Used}
use Rattle.out_fold.specs.Stands.{StandsFor, merge_of, touched_of}
use Rattle.progress_save.specs.Prefix.{AreSettled, saved_cells}
use Rattle.progress_save.proofs.settling.settle.Given as goal

abbrev pub invariant-loop-i : goal.invariant-loop-i
invariant-loop-i l = record {
  cells : (us : List Used) → StandsFor l.f us → AreSettled (merge_of l.f) us (touched_of l.f) l.step.from l.step.stop l.fn.n.cells
      → l.n.cells ≡ saved_cells (merge_of l.f) us l.i l.step.stop l.fn.n.cells;
  count : length l.n.cells ≡ length l.fn.n.cells;
  metadata : l.n.metadata ≡ l.fn.n.metadata;
}
