use Rattle.std.proofs.lemmas.Result.{on_ok_weaker, on_err_weaker}
use Rattle.toy_core.proofs.Keeping.{sends_all, sends_none}
use Rattle.toy_core.proofs.lanes.Lanes.send.Goals as goal

pub returns-in-Shell-clause-sends : goal.returns-in-Shell-clause-sends
returns-in-Shell-clause-sends c = rw c.in-Shell.is (on_ok_weaker c.send.result (λ s. sends_all _ _ _ s (sends_none _) (sends_none _) (sends_none _)) c.send.ensures.sends)

pub returns-in-Shell-clause-err : goal.returns-in-Shell-clause-err
returns-in-Shell-clause-err c = on_err_weaker c.send.result (λ s. sends_all _ _ _ s (sends_none _) (sends_none _) (sends_none _)) c.send.ensures.err

pub returns-in-Control-clause-sends : goal.returns-in-Control-clause-sends
returns-in-Control-clause-sends c = rw c.in-Control.is (on_ok_weaker c.send-in-Control.result (λ s. sends_all _ _ _ (sends_none _) s (sends_none _) (sends_none _)) c.send-in-Control.ensures.sends)

pub returns-in-Control-clause-err : goal.returns-in-Control-clause-err
returns-in-Control-clause-err c = on_err_weaker c.send-in-Control.result (λ s. sends_all _ _ _ (sends_none _) s (sends_none _) (sends_none _)) c.send-in-Control.ensures.err

pub returns-in-Iopub-clause-sends : goal.returns-in-Iopub-clause-sends
returns-in-Iopub-clause-sends c = rw c.in-Iopub.is (on_ok_weaker c.send-in-Iopub.result (λ s. sends_all _ _ _ (sends_none _) (sends_none _) s (sends_none _)) c.send-in-Iopub.ensures.sends)

pub returns-in-Iopub-clause-err : goal.returns-in-Iopub-clause-err
returns-in-Iopub-clause-err c = on_err_weaker c.send-in-Iopub.result (λ s. sends_all _ _ _ (sends_none _) (sends_none _) s (sends_none _)) c.send-in-Iopub.ensures.err

pub returns-in-Heart-clause-sends : goal.returns-in-Heart-clause-sends
returns-in-Heart-clause-sends c = rw c.in-Heart.is (on_ok_weaker c.send-in-Heart.result (λ s. sends_all _ _ _ (sends_none _) (sends_none _) (sends_none _) s) c.send-in-Heart.ensures.sends)

pub returns-in-Heart-clause-err : goal.returns-in-Heart-clause-err
returns-in-Heart-clause-err c = on_err_weaker c.send-in-Heart.result (λ s. sends_all _ _ _ (sends_none _) (sends_none _) (sends_none _) s) c.send-in-Heart.ensures.err
