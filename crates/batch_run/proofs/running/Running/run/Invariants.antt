use Rattle.std.proofs.Common.{◌<◌, length, ◌≤◌}
use Rattle.ready_loop.specs.States.{IsDrained, IsSound}
use Rattle.batch_run.specs.Lines.{budget, waits_of}
use Rattle.batch_run.specs.Owed.{none}
use Rattle.batch_run.specs.Stands.{KeepsWaiting, NoneOver}
use Rattle.batch_run.proofs.running.Running.run.Given as goal

abbrev pub invariant-loop : goal.invariant-loop
invariant-loop g l = record {
  stands : NoneOver l.fn.self.jobs.slots.items → KeepsWaiting g.W.Journal.journal g.W.Journal.counts l.fn.w l.w none l.fn.self.lines l.self.lines l.fn.self.jobs.slots.items l.self.jobs.slots.items;
  left : waits_of l.self.lines ≤ waits_of l.fn.self.lines;
  drained : IsDrained l.self.lines.connections;
  sound : IsSound l.self.lines.connections;
  over : NoneOver l.fn.self.jobs.slots.items → NoneOver l.self.jobs.slots.items;
  room : 0 < length l.self.buf.items;
}

abbrev pub decreases-loop : goal.decreases-loop
decreases-loop g l = budget l.self.lines
