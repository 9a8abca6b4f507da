use Rattle.std.proofs.Common.{◌≡◌, length}
use Rattle.batch_run.specs.Due.{AreLooksBelow}
use Rattle.batch_run.proofs.running.Running.looks.Given as goal

abbrev pub invariant-loop-number : goal.invariant-loop-number
invariant-loop-number l = record {
  size : length l.looks ≡ 16;
  answers : AreLooksBelow l.number l.fn.self.jobs.slots.items l.looks;
}
