use Rattle.std.proofs.Common.{subst, ◌∷◌}
use Rattle.kernel_lines.specs.Happened.{Given}
use Rattle.kernel_lines.specs.Line.{StandsFor}
use Rattle.kernel_lines.specs.Lines.{line_on}
use Rattle.job_run.proofs.ListenLemmas.{on_then}
use Rattle.job_run.proofs.execution.Execution.say.Goals as goal

pub returns-clause-queues : goal.returns-clause-queues
returns-clause-queues c =
    on_then c.send.result (λ stands. record {
      line = λ h out s. subst (λ ps. StandsFor (line_on c.send.new.self c.args.chan) (Given ps ∷ h) out) c.in_ok-parts.ensures.is (stands h out s);
      role = c.send.ensures.role;
      taken = c.send.ensures.taken;
      others = c.send.ensures.others;
      made = c.in_ok-parts.ensures.made;
    }) c.send.ensures.stands
