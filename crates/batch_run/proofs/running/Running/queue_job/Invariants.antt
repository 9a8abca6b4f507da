use Rattle.std.proofs.Common.{◌≡◌}
use Rattle.batch_run.specs.Kept.{IsLeft, StaysBegun}
use Rattle.batch_run.specs.Stands.{ChangesAt, SameOver, StayLinesAt}
use Rattle.batch_run.proofs.running.Running.queue_job.Given as goal

abbrev pub invariant-loop-chan : goal.invariant-loop-chan
invariant-loop-chan l = record {
  left : IsLeft l.job l.fn.self.lines.connections l.self.lines.connections;
  linked : StaysBegun l.fn.self.lines.connections l.self.lines.connections;
  at : ChangesAt l.job l.fn.self.jobs.slots.items l.self.jobs.slots.items;
  stands : StayLinesAt l.job l.fn.self.lines.connections l.self.lines.connections l.fn.self.jobs.slots.items l.self.jobs.slots.items;
  over : SameOver l.fn.self.jobs.slots.items l.self.jobs.slots.items;
  buf : l.self.buf ≡ l.fn.self.buf;
}
