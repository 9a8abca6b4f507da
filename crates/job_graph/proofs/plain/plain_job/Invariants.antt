use Rattle.std.proofs.Common.{◌≡◌, ◌++◌, not}
use Rattle.std.specs.Prelude.{filter}
use Rattle.jtext.specs.Find.{fields}
use Rattle.job_graph.specs.Given as spec
use Rattle.job_graph.proofs.plain.plain_job.Given as goal

abbrev pub invariant-loop-pair : goal.invariant-loop-pair
invariant-loop-pair l = l.pairs ++ filter (λ p. not (spec.is_of_graph p)) l.pair-iterator.rest.items ≡ filter (λ p. not (spec.is_of_graph p)) (fields l.fn.job)
