use Rattle.std.proofs.Common.{◌≡◌, [], replicate, vec_len}
use Rattle.ready_loop.specs.Queues.{Held}
use Rattle.ready_loop.proofs.queues.Queues.new.Given as goal

abbrev pub invariant-loop : goal.invariant-loop
invariant-loop l = record {
  size : vec_len l.all ≡ l.counter;
  empty : l.all.items ≡ replicate {A = Held} l.counter (record { rest = []; taken = 0 });
}
