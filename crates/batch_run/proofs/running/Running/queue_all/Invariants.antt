use Rattle.std.proofs.Common.{◌≡◌}
use Rattle.batch_run.specs.Kept.{IsKept}
use Rattle.batch_run.specs.Stands.{SameOver, StayLines}
use Rattle.batch_run.proofs.running.Running.queue_all.Given as goal

abbrev pub invariant-loop-number : goal.invariant-loop-number
invariant-loop-number l = record {
  left : IsKept l.fn.self.lines.connections l.self.lines.connections;
  stands : StayLines l.fn.self.lines.connections l.self.lines.connections l.fn.self.jobs.slots.items l.self.jobs.slots.items;
  over : SameOver l.fn.self.jobs.slots.items l.self.jobs.slots.items;
  buf : l.self.buf ≡ l.fn.self.buf;
}
