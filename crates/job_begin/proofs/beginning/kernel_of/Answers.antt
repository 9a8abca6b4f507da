use Rattle.job_run.proofs.WorkLemmas.{disk_works}
use Rattle.job_begin.proofs.BeginLemmas.{finds_told, kernel_told}
use Rattle.job_begin.proofs.EndLemmas.{looked_by}
use Rattle.job_begin.proofs.beginning.kernel_of.Goals as goal

pub returns-clause-found : goal.returns-clause-found
returns-clause-found g c own = kernel_told c.args.ask.now c.args.notebook.now c.find.result c.found_or_end.result _ _ c.found_or_end.ensures.found c.find.ensures.entries own

pub returns-clause-calls : goal.returns-clause-calls
returns-clause-calls g c cast number has own = finds_told c.args.ask.now c.args.notebook.now c.find.result cast number has _ _ own c.find.ensures.entries

pub returns-clause-work : goal.returns-clause-work
returns-clause-work g c = disk_works c.find.ensures.cause

pub returns-clause-kernel : goal.returns-clause-kernel
returns-clause-kernel g c = looked_by c.args.ask.now c.args.notebook.now c.find.result _ _ c.found_or_end.result c.found_or_end.ensures.fault c.find.ensures.entries
