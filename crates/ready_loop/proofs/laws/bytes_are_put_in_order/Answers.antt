use Rattle.std.proofs.Common.{arith}
use Rattle.ready_loop.specs.Queues.{rest_at}
use Rattle.ready_loop.proofs.laws.bytes_are_put_in_order.Goals as goal
use Rattle.jtext.proofs.Lists.{some_at}

pub returns : goal.returns
returns c = λ l h journal stand p low.
    let (link, found) = some_at l.links p (omega (arith, stand.size)) in
    (rest_at l.queues p, (stand.each p link found).sends.whole)
