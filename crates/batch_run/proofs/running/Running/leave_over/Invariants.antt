use Rattle.std.proofs.Common.{◌≡◌}
use Rattle.batch_run.specs.Kept.{IsKept}
use Rattle.batch_run.specs.Owed.{none}
use Rattle.batch_run.specs.Stands.{NoneOverBelow, KeepsLines}
use Rattle.batch_run.proofs.running.Running.leave_over.Given as goal

abbrev pub invariant-loop-number : goal.invariant-loop-number
invariant-loop-number g l = record {
  stands : KeepsLines g.W.Journal.journal g.W.Journal.counts l.fn.w l.w none none l.fn.self.lines.connections l.self.lines.connections l.fn.self.jobs.slots.items l.self.jobs.slots.items;
  left : IsKept l.fn.self.lines.connections l.self.lines.connections;
  over : NoneOverBelow l.number l.self.jobs.slots.items;
  buf : l.self.buf ≡ l.fn.self.buf;
}
