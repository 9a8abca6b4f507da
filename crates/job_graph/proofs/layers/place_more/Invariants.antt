use Rattle.std.proofs.Common.{◌≡◌, ◌++◌, drop, map}
use Rattle.std.specs.List.{list_all}
use Rattle.job_graph.specs.Layers.{is_placed, place_more}
use Rattle.job_graph.proofs.layers.place_more.Given as goal

abbrev pub invariant-loop-list : goal.invariant-loop-list
invariant-loop-list l = l.next ++ map (list_all (is_placed l.placed)) (drop l.list-index l.needs) ≡ place_more l.fn.needs l.fn.placed
