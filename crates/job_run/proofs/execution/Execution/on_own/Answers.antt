use Rattle.world.proofs.MomentsLemmas.{told_start}
use Rattle.job_run.specs.Heard.{is_parent_of}
use Rattle.job_run.proofs.MessageLemmas.{passes_over, unreplied}
use Rattle.job_run.proofs.StepLemmas.{goes_still}
use Rattle.job_run.proofs.execution.Execution.on_own.Goals.{in_default-via-in-Shell+in_default, in_default-via-in_default}
use Rattle.job_run.proofs.execution.Execution.on_own.Goals as goal

pub returns-in_default-clause-uses : goal.returns-in_default-clause-uses
returns-in_default-clause-uses g c p number standing done rest m own = elim c.in_default.branch [
  | in_default-via-in-Shell+in_default w ↦ told_start (λ now u.
      passes_over p number c.args.self.now standing c.args.chan done rest m now (λ same on. absurd (w.in_default.not-Iopub-0 on))
      (λ same on. unreplied m c.args.content (is_parent_of c.args.self.now.request m.parent) own.content_is w.in_default.not-ExecReply-1) u)
  | in_default-via-in_default w ↦ told_start (λ now u.
      passes_over p number c.args.self.now standing c.args.chan done rest m now (λ same on. absurd (w.in_default.not-Iopub-0 on)) (λ same on. absurd (w.in_default.not-Shell-0 on)) u)
]

pub returns-in_default-clause-goes : goal.returns-in_default-clause-goes
returns-in_default-clause-goes g c = goes_still c.requires.holds c.requires.calm
