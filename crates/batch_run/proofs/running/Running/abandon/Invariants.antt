use Rattle.std.proofs.Common.{◌≡◌, length}
use Rattle.batch_run.specs.Lines.{waits_of}
use Rattle.batch_run.specs.Owed.{unknown}
use Rattle.batch_run.specs.Stands.{EndedBelow, KeepsLines}
use Rattle.batch_run.proofs.running.Running.abandon.Given as goal

abbrev pub invariant-loop-number : goal.invariant-loop-number
invariant-loop-number g l = record {
  left : waits_of l.self.lines ≡ waits_of l.fn.self.lines;
  stands : KeepsLines g.W.Journal.journal g.W.Journal.counts l.fn.w l.w unknown unknown l.fn.self.lines.connections l.self.lines.connections l.fn.self.jobs.slots.items l.self.jobs.slots.items;
  ended : EndedBelow l.number l.self.jobs.slots.items;
  size : length l.self.jobs.slots.items ≡ length l.fn.self.jobs.slots.items;
}
