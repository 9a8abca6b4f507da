use Rattle.cell_core.specs.Requests as core
use Rattle.run_journal.proofs.Agreeing.{known}
use Rattle.run_journal.proofs.laws.agreement.passed_requests_agree.Goals as goal

pub returns : goal.returns
returns c j told past k r a e = known j k r (core.after j.task k told) (a.standing k r e)
