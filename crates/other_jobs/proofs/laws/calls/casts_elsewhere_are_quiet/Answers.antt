use Rattle.other_jobs.proofs.Calling.{calls_quiet, calls_rest}
use Rattle.other_jobs.proofs.laws.calls.casts_elsewhere_are_quiet.Goals as goal

pub returns : goal.returns
returns g = record {
  quiet = calls_quiet;
  rested = λ output c before now elsewhere since rested. calls_rest output c elsewhere since rested;
}
