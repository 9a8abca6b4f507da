use Rattle.std.proofs.Common.{◌-◌, ap}
use Rattle.std.specs.Option.{option_copied}
use Rattle.out_fold.proofs.PlainLemmas.{replied}
use Rattle.out_fold.proofs.plain_fold.PlainFold.reply.Goals as goal

pub returns-clause-ok : goal.returns-clause-ok
returns-clause-ok c = λ us u e.
    replied us u c.args.self.now.used (c.len-last.result - 1) c.new.result c.put-current.result
    (option_copied c.args.date) c.in_ok-date.date c.put-current.new.self c.put.new.self
    c.put-current.ensures.old c.put-current.ensures.new c.put.ensures.new c.in_ok-date.ensures (ap (λ n. n - 1) c.len-last.ensures) e
