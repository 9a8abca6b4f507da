use Rattle.run_journal.proofs.Ordering.{order_is_free}
use Rattle.run_journal.proofs.laws.order.order_is_free.Goals as goal

pub returns : goal.returns
returns c j d one two a b same =
    order_is_free j d one two a.shell a.iopub b.shell b.iopub same a.later b.later a.answered b.answered
