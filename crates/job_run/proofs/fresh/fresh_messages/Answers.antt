use Rattle.std.proofs.Common.{◌≡◌, ◌<◌, length, get_or, subst}
use Rattle.job_run.proofs.ListenLemmas.{heard_contents, heard_more}
use Rattle.job_run.proofs.fresh.fresh_messages.Goals as goal

pub loop-body-preserved : goal.loop-body-preserved
loop-body-preserved c =
    let i = c.loop-body.invariant in
    let f = c.in_ok-heard.ensures in
    let k = c.in_ok-keep_heard.ensures in
    let at = c.loop-body.body-index in
    let x = c.body-item.result in
    record {
      heard = λ key signs before seen. heard_more key before c.args.bodies.now at x c.fresh_message.new.seen c.loop-body.messages c.keep_heard.new.messages c.in_ok-heard.heard
          (subst (λ xs. at < length xs) c.as_slice-body-items.ensures c.loop-body-test.true)
          (subst (λ xs. x ≡ get_or xs at x) c.as_slice-body-items.ensures c.body-item.is) k.arrivals (f.next key signs before _ _ (i.heard key signs before seen));
      contents = λ key signs. k.contents (heard_contents key x c.loop-body.seen c.fresh_message.new.seen c.in_ok-heard.heard (f.heard key signs)) (i.contents key signs);
    }
