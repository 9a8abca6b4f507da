use Rattle.std.proofs.Common.{◌≡◌, length}
use Rattle.batch_run.specs.Stands.{KeepsOthers, SameOver, StayAll}
use Rattle.batch_run.proofs.running.Running.tell_taken_of.Given as goal

abbrev pub invariant-loop-chan : goal.invariant-loop-chan
invariant-loop-chan l = record {
  stands : StayAll l.fn.self.jobs.slots.items l.self.jobs.slots.items;
  over : SameOver l.fn.self.jobs.slots.items l.self.jobs.slots.items;
  others : KeepsOthers l.job l.fn.self.jobs.slots.items l.self.jobs.slots.items;
  lines : l.self.lines ≡ l.fn.self.lines;
  buf : l.self.buf ≡ l.fn.self.buf;
  size : length l.self.jobs.slots.items ≡ length l.fn.self.jobs.slots.items;
}
