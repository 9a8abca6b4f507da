use Rattle.std.proofs.Common.{◌≡◌, ◌+◌, length, List, Option}
use Rattle.world.specs.declared.entry.Entry.{Entry}
use Rattle.ready_loop.specs.States.{IsDrained, IsSound, waits_left}
use Rattle.batch_run.specs.Batch.{numbered}
use Rattle.batch_run.specs.Kept.{IsFreshFrom}
use Rattle.batch_run.specs.Owed.{begins}
use Rattle.batch_run.specs.Stands.{AllStand, NoneOver, Outset, WaitingFrom, served_by}
use Rattle.batch_run.proofs.batch.begin_all.Given as goal

abbrev pub invariant-loop-ask : goal.invariant-loop-ask
invariant-loop-ask g l = record {
  number : l.number ≡ l.fn.first + length l.yielded;
  size : length l.running.jobs.slots.items ≡ l.fn.first + length l.fn.asks;
  waiting : WaitingFrom l.number l.running.jobs.slots.items;
  stands : (start : Option (List Entry)) (from : Outset) → from.here ≡ l.fn.limits.here
      → AllStand (numbered l.fn.first l.fn.asks) start (served_by (begins l.fn.first) l.fn.running.lines.connections from) l.fn.running.jobs.slots.items (g.W.Journal.journal l.fn.w) (g.W.Journal.counts l.fn.w)
      → AllStand (numbered l.fn.first l.fn.asks) start (served_by (begins l.number) l.running.lines.connections from) l.running.jobs.slots.items (g.W.Journal.journal l.w) (g.W.Journal.counts l.w);
  over : NoneOver l.fn.running.jobs.slots.items → NoneOver l.running.jobs.slots.items;
  fresh : IsFreshFrom l.number l.running.lines.connections;
  drained : IsDrained l.running.lines.connections;
  sound : IsSound l.running.lines.connections;
  buf : l.running.buf ≡ l.fn.running.buf;
  waits : waits_left l.running.lines.connections ≡ waits_left l.fn.running.lines.connections;
}
