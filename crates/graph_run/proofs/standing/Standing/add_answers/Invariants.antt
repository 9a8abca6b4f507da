use Rattle.std.proofs.Common.{◌≡◌, ◌++◌, drop}
use Rattle.graph_run.specs.Waves.{ends_of}
use Rattle.graph_run.proofs.standing.Standing.add_answers.Given as goal

abbrev pub invariant-loop-job : goal.invariant-loop-job
invariant-loop-job l = record {
  ended : l.self.ended ++ ends_of (drop l.job-index l.jobs) l.rest ≡ l.initial.self.ended ++ ends_of l.fn.jobs l.fn.answers;
  ran : l.self.ran ≡ l.initial.self.ran;
}
