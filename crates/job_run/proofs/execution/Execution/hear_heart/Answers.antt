use Rattle.std.proofs.Common.{ap, sym, ◌∙◌}
use Rattle.std.proofs.Math.Bool.{true≢false}
use Rattle.job_run.proofs.ListenLemmas.{some_echo}
use Rattle.job_run.proofs.execution.Execution.hear_heart.Goals as goal

pub returns-then-not-is_empty : goal.returns-then-not-is_empty
returns-then-not-is_empty c =
    ap (λ p. record c.args.self.now { pings = p }) c.on_echo.ensures
    ∙ some_echo c.args.self.now c.args.bodies.now (λ e. true≢false (sym (c.is_empty.ensures.1 e) ∙ c.if-not-is_empty.true))
