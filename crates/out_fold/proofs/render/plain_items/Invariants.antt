use Rattle.std.proofs.Common.{◌≡◌, take, map}
use Rattle.out_fold.specs.Shown.{resolve}
use Rattle.out_fold.specs.Tree.{output_tree}
use Rattle.out_fold.specs.Held.{data_of}
use Rattle.out_fold.proofs.render.plain_items.Given as goal

abbrev pub invariant-loop-c : goal.invariant-loop-c
invariant-loop-c l = l.items ≡ map (λ c. output_tree (resolve (data_of l.latest) c)) (take l.c-index l.outputs)
