use Rattle.std.proofs.Common.{◌≡◌, ◌≤◌}
use Rattle.ready_loop.specs.States.{IsDrained, IsSound}
use Rattle.batch_run.specs.Lines.{open_of, waits_of}
use Rattle.batch_run.specs.Owed.{none}
use Rattle.batch_run.specs.Stands.{KeepsLines, NoneOver}
use Rattle.batch_run.proofs.running.Running.put_out.Given as goal

abbrev pub invariant-loop-self : goal.invariant-loop-self
invariant-loop-self g l = record {
  left : waits_of l.self.lines ≡ waits_of l.fn.self.lines;
  linked : open_of l.self.lines ≤ open_of l.fn.self.lines;
  stands : KeepsLines g.W.Journal.journal g.W.Journal.counts l.fn.w l.w none none l.fn.self.lines.connections l.self.lines.connections l.fn.self.jobs.slots.items l.self.jobs.slots.items;
  over : NoneOver l.fn.self.jobs.slots.items → NoneOver l.self.jobs.slots.items;
  drained : IsDrained l.fn.self.lines.connections → IsDrained l.self.lines.connections;
  sound : IsSound l.self.lines.connections;
  buf : l.self.buf ≡ l.fn.self.buf;
}

abbrev pub decreases-loop-self : goal.decreases-loop-self
decreases-loop-self g l = open_of l.self.lines
