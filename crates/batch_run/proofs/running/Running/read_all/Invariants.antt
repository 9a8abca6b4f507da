use Rattle.std.proofs.Common.{◌<◌, ◌≤◌, length, ◌≡◌}
use Rattle.ready_loop.specs.States.{IsSound}
use Rattle.batch_run.specs.Lines.{open_of, reads_of, waits_of}
use Rattle.batch_run.specs.Owed.{none}
use Rattle.batch_run.specs.Stands.{KeepsLines, NoneOver}
use Rattle.batch_run.proofs.running.Running.read_all.Given as goal

abbrev pub invariant-loop : goal.invariant-loop
invariant-loop g l = record {
  left : waits_of l.self.lines ≡ waits_of l.fn.self.lines;
  linked : open_of l.self.lines ≤ open_of l.fn.self.lines;
  stands : NoneOver l.fn.self.jobs.slots.items → KeepsLines g.W.Journal.journal g.W.Journal.counts l.fn.w l.w none none l.fn.self.lines.connections l.self.lines.connections l.fn.self.jobs.slots.items l.self.jobs.slots.items;
  room : 0 < length l.self.buf.items;
  sound : IsSound l.self.lines.connections;
  over : NoneOver l.fn.self.jobs.slots.items → NoneOver l.self.jobs.slots.items;
}

abbrev pub decreases-loop : goal.decreases-loop
decreases-loop g l = reads_of l.self.lines
