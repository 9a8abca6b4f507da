use Rattle.std.proofs.Common.{◌≡◌, ◌++◌, map}
use Rattle.jtext.specs.Find.{fields}
use Rattle.job_graph.specs.Given as spec
use Rattle.job_graph.proofs.plain.rest_of.Given as goal

abbrev pub invariant-loop-pair : goal.invariant-loop-pair
invariant-loop-pair l = l.pairs ++ map spec.plain_pair l.pair-iterator.rest.items ≡ map spec.plain_pair (fields l.fn.t)
