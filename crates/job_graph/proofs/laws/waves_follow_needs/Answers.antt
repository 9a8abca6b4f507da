use Rattle.std.proofs.Common.{suc, ◌+◌, refl, arith}
use Rattle.job_graph.proofs.Least.{after_needs, needs_before}
use Rattle.job_graph.proofs.WaveLemmas.{one_wave}
use Rattle.job_graph.proofs.laws.waves_follow_needs.Goals as goal

pub returns : goal.returns
returns c = record {
  one = λ needs i w v has other. one_wave needs (suc w) i w v (omega arith) has other;
  after = λ needs list i j w v at is has other. after_needs needs list i j w v at is has other;
  before = λ needs i w has. needs_before needs i w (w + 1) refl has;
}
