use Rattle.std.proofs.Common.{◌≤◌, ◌+◌, ◌-◌, length}
use Rattle.batch_run.specs.Stands.{EndedBelow, WaitingFrom}
use Rattle.batch_run.proofs.jobs.Jobs.new.Given as goal

abbrev pub invariant-loop-slots : goal.invariant-loop-slots
invariant-loop-slots l = record {
  few : length l.slots.items ≤ l.first + l.count;
  ended : EndedBelow l.first l.slots.items;
  waiting : WaitingFrom l.first l.slots.items;
}

abbrev pub decreases-loop-slots : goal.decreases-loop-slots
decreases-loop-slots l = (l.first + l.count) - length l.slots.items
