use Rattle.std.proofs.Common.{◌-◌, ap}
use Rattle.std.specs.Option.{option_copied}
use Rattle.std.proofs.lemmas.Result.{on_ok_weaker, on_err_weaker}
use Rattle.out_fold.proofs.PlainLemmas.{heard, unheard}
use Rattle.out_fold.proofs.plain_fold.PlainFold.take.Goals as goal

pub returns-clause-ok : goal.returns-clause-ok
returns-clause-ok c =
    on_ok_weaker c.push-taken.result
    (λ h us u e. heard us u c.args.self.now.used (c.len-last.result - 1) c.new.result c.put-current.result c.push-taken.new.self
    c.args.c.now c.in_ok-content.content (option_copied c.args.date) c.in_ok-date.date c.put-current.new.self c.put.new.self
    c.put-current.ensures.old c.put-current.ensures.new c.put.ensures.new h c.in_ok-content.ensures c.in_ok-date.ensures (ap (λ n. n - 1) c.len-last.ensures) e)
    c.push-taken.ensures.ok

pub returns-clause-err : goal.returns-clause-err
returns-clause-err c =
    on_err_weaker c.push-taken.result
    (λ h. unheard c.args.self.now.used (c.len-last.result - 1) c.new.result c.put-current.result c.push-taken.new.self c.put-current.new.self c.put.new.self
    c.put-current.ensures.old c.put-current.ensures.new c.put.ensures.new h)
    c.push-taken.ensures.err
