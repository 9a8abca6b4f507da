use Rattle.other_jobs.proofs.Clocks.{cannot_ask, clock_moves}
use Rattle.other_jobs.proofs.laws.clock.clocks_ask_nothing_at_first.Goals as goal

pub returns : goal.returns
returns c = record {
  unasked = cannot_ask;
  passes = clock_moves;
}
