use Rattle.std.proofs.Common.{[], ◌∙◌}
use Rattle.job_journal.proofs.laws.standing.connections_can_ask.Goals as goal

pub returns : goal.returns
returns c = λ p number x now h taken can is.
    is h.lines.shell.past h.lines.iopub.past h.lines.shell.out h.lines.iopub.out h.lines.shell.stands h.lines.iopub.stands
    ∙ c.the_kernel_can_be_asked.ensures p x.lines [] [] now h.lines.shell h.lines.iopub taken
