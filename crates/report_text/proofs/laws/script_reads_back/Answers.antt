use Rattle.report_text.proofs.RoundTrip.{accepted, reads_back}
use Rattle.report_text.proofs.laws.script_reads_back.Goals as goal

pub returns-clause-accepted : goal.returns-clause-accepted
returns-clause-accepted c = accepted

pub returns-clause-same : goal.returns-clause-same
returns-clause-same c = reads_back
