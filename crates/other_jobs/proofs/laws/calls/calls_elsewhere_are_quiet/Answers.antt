use Rattle.other_jobs.proofs.Calling.{call_quiet, call_rests}
use Rattle.other_jobs.proofs.laws.calls.calls_elsewhere_are_quiet.Goals as goal

pub returns : goal.returns
returns c = record {
  quiet = λ j here starts clean number a entry past apart is off rested. call_quiet j here starts clean number a apart entry past is off rested;
  rested = λ output here starts clean number a entry past apart is. call_rests output here starts clean number a apart entry past is;
}
