use Rattle.std.proofs.Common.{◌∙◌, ap}
use Rattle.out_fold.specs.Shown.{resolve}
use Rattle.out_fold.specs.Tree.{output_tree, stream_tree}
use Rattle.out_fold.specs.Held.{data_of}
use Rattle.out_fold.proofs.JoinedLemmas.{run-items}
use Rattle.out_fold.proofs.render.joined_item.Goals as goal

pub returns-in_ok-tree-in-Stream-clause-first : goal.returns-in_ok-tree-in-Stream-clause-first
returns-in_ok-tree-in-Stream-clause-first c =
    run-items (λ x. output_tree (resolve (data_of c.args.latest.now) x)) c.args.first.now c.in-Stream.name c.in-Stream.text c.args.after.now
    c.run_len-run.result c.in_ok-tree-in-Stream.tree c.in-Stream.is c.run_len-run.ensures.value
    (c.in_ok-tree-in-Stream.ensures ∙ ap (λ s. stream_tree c.in-Stream.name s) (c.as_str.ensures.value ∙ c.in_ok-joined-in-Stream.ensures))
