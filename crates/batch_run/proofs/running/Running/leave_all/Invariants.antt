use Rattle.std.proofs.Common.{◌≡◌, length}
use Rattle.batch_run.specs.Kept.{IsKept}
use Rattle.batch_run.specs.Owed.{none}
use Rattle.batch_run.specs.Stands.{EndedBelow, KeepsLines}
use Rattle.batch_run.proofs.running.Running.leave_all.Given as goal

abbrev pub invariant-loop-number : goal.invariant-loop-number
invariant-loop-number g l = record {
  stands : KeepsLines g.W.Journal.journal g.W.Journal.counts l.fn.w l.w none none l.fn.self.lines.connections l.self.lines.connections l.fn.self.jobs.slots.items l.self.jobs.slots.items;
  left : IsKept l.fn.self.lines.connections l.self.lines.connections;
  ended : EndedBelow l.number l.self.jobs.slots.items;
  size : length l.self.jobs.slots.items ≡ length l.fn.self.jobs.slots.items;
  buf : l.self.buf ≡ l.fn.self.buf;
}
