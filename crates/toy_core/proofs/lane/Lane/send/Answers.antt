use Rattle.std.proofs.Common.{refl}
use Rattle.std.proofs.lemmas.Result.{on_ok_weaker, on_err_weaker}
use Rattle.toy_core.proofs.Keeping.{sends_posted, sends_trimmed}
use Rattle.toy_core.proofs.lane.Lane.send.Goals as goal

pub returns-then-self-clause-sends : goal.returns-then-self-clause-sends
returns-then-self-clause-sends c =
    on_ok_weaker c.post.result (λ e. sends_posted c.args.octets.now c.args.self.now _ c.if-self.true refl e) c.post.ensures.ok

pub returns-then-self-clause-err : goal.returns-then-self-clause-err
returns-then-self-clause-err c = on_err_weaker c.post.result (λ e. sends_trimmed c.args.self.now _ refl e) c.post.ensures.err
