use Rattle.nb_migrate.proofs.Raises.{raised_more}
use Rattle.nb_migrate.proofs.raising.raised_items.Goals as goal

pub loop-item-preserved : goal.loop-item-preserved
loop-item-preserved c =
    raised_more c.loop-item.yielded c.loop-item.out _ c.in-Some.item _ _ c.loop-item.invariant c.len.ensures c.in_ok-cell.ensures c.in_ok-push.ensures.ok
