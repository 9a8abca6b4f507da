use Rattle.std.proofs.Common.{◌≡◌, length}
use Rattle.batch_run.specs.Stands.{SameOver, StayAll}
use Rattle.batch_run.specs.Telling.{AreTakenBelow}
use Rattle.batch_run.proofs.running.Running.tell_taken.Given as goal

abbrev pub invariant-loop-number : goal.invariant-loop-number
invariant-loop-number l = record {
  stands : StayAll l.fn.self.jobs.slots.items l.self.jobs.slots.items;
  over : SameOver l.fn.self.jobs.slots.items l.self.jobs.slots.items;
  taken : AreTakenBelow l.number l.self.lines.connections l.self.jobs.slots.items;
  lines : l.self.lines ≡ l.fn.self.lines;
  buf : l.self.buf ≡ l.fn.self.buf;
  size : length l.self.jobs.slots.items ≡ length l.fn.self.jobs.slots.items;
}
