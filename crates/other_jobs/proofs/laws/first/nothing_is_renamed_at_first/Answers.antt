use Rattle.other_jobs.proofs.Ended.{renamed_calls, renamed_loops, renamed_quiet}
use Rattle.other_jobs.proofs.laws.first.nothing_is_renamed_at_first.Goals as goal

pub returns : goal.returns
returns c = record {
  quiet = renamed_quiet;
  calls = renamed_calls;
  loops = renamed_loops;
}
