use Rattle.std.proofs.Common.{◌≡◌, sym, subst}
use Rattle.cell_core.specs.StandsFor.{task_of}
use Rattle.job_run.specs.Task.{task_in, AreTermsOf}
use Rattle.job_run.proofs.starting.parts_of.Goals as goal

pub returns-clause-task : goal.returns-clause-task
returns-clause-task c = subst (λ t. task_of c.in_ok-run.run'.core ≡ task_in t c.args.agenda.notebook) c.terms_of.ensures.times c.in_ok-run.ensures.task

pub returns-clause-key : goal.returns-clause-key
returns-clause-key c = c.in_ok-run.ensures.key

pub returns-clause-paths : goal.returns-clause-paths
returns-clause-paths c = c.in_ok-paths.ensures.output

pub returns-clause-terms : goal.returns-clause-terms
returns-clause-terms c = subst (AreTermsOf c.args.ask) (sym c.in_ok-run.ensures.terms) c.terms_of.ensures

pub returns-clause-unbegun : goal.returns-clause-unbegun
returns-clause-unbegun c = c.in_ok-run.ensures.unbegun

pub returns-clause-name : goal.returns-clause-name
returns-clause-name c = c.in_ok-run.ensures.name
