use Rattle.out_fold.specs.Shown.{resolve}
use Rattle.out_fold.specs.Tree.{output_tree}
use Rattle.out_fold.specs.Held.{data_of}
use Rattle.out_fold.proofs.JoinedLemmas.{next-item}
use Rattle.out_fold.proofs.render.joined_items.Goals as goal

pub loop-first-preserved : goal.loop-first-preserved
loop-first-preserved c =
    next-item (λ x. output_tree (resolve (data_of c.args.latest.now) x)) c.loop-first.items c.push.new.self _ c.loop-first.rest.now c.in-Some.after.now c.in-Some.first.now
    c.in_ok-item.item c.in_ok-item.taken _ c.loop-first.invariant c.in-Some.ensures.cases.0 c.in_ok-item.ensures.first c.in_ok-push.ensures.ok c.split_at.ensures.back
