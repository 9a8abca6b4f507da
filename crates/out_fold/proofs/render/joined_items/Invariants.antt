use Rattle.std.proofs.Common.{◌≡◌, ◌++◌, length, map}
use Rattle.out_fold.specs.Shown.{resolve}
use Rattle.out_fold.specs.Joined.{join}
use Rattle.out_fold.specs.Tree.{output_tree}
use Rattle.out_fold.specs.Held.{data_of}
use Rattle.out_fold.proofs.render.joined_items.Given as goal

abbrev pub invariant-loop-first : goal.invariant-loop-first
invariant-loop-first l = l.items ++ map (λ c. output_tree (resolve (data_of l.latest) c)) (join l.rest) ≡ map (λ c. output_tree (resolve (data_of l.latest) c)) (join l.fn.outputs)

abbrev pub decreases-loop-first : goal.decreases-loop-first
decreases-loop-first l = length l.rest
