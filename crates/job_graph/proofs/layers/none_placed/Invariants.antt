use Rattle.std.proofs.Common.{◌≡◌, ◌++◌, false, drop, map}
use Rattle.job_graph.specs.Layers.{none_placed}
use Rattle.job_graph.proofs.layers.none_placed.Given as goal

abbrev pub invariant-loop-list : goal.invariant-loop-list
invariant-loop-list l = l.placed ++ map (λ list. false) (drop l._list-index l.needs) ≡ none_placed l.fn.needs
