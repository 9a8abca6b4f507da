use Rattle.report_text.proofs.RoundTrip.{one_script}
use Rattle.report_text.proofs.laws.one_reading.Goals as goal

pub returns : goal.returns
returns c = one_script
