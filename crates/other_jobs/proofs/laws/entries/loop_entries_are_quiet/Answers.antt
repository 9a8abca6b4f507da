use Rattle.other_jobs.proofs.Loops.{closes_quiet, loop_quiet, loops_rest}
use Rattle.other_jobs.proofs.laws.entries.loop_entries_are_quiet.Goals as goal

pub returns : goal.returns
returns c = record {
  quiet = loop_quiet;
  rested = loops_rest;
  closes = closes_quiet;
}
