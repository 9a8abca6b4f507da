use Rattle.std.proofs.Common.{◌≡◌, drop}
use Rattle.graph_run.specs.Tests as spec
use Rattle.graph_run.proofs.statuses.status_of.Given as goal

abbrev pub invariant-loop-end : goal.invariant-loop-end
invariant-loop-end l = spec.status_of l.job (drop l.end-index l.ended) ≡ spec.status_of l.fn.job l.fn.ended
