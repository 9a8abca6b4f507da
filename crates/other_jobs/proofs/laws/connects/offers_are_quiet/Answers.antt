use Rattle.other_jobs.proofs.Connecting.{job_offers_quiet, looks_quiet, offers_quiet}
use Rattle.other_jobs.proofs.laws.connects.offers_are_quiet.Goals as goal

pub returns : goal.returns
returns c = record {
  all = offers_quiet;
  job = job_offers_quiet;
  looks = looks_quiet;
}
