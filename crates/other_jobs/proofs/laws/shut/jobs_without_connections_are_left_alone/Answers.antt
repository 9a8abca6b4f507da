use Rattle.std.proofs.Common.{false}
use Rattle.other_jobs.proofs.Shutting.{job_offers_alone, looks_alone, offers_alone, reads_quiet}
use Rattle.other_jobs.proofs.laws.shut.jobs_without_connections_are_left_alone.Goals as goal

pub returns : goal.returns
returns c = record {
  reads = reads_quiet;
  offers = λ j l h before now low stand none since. offers_alone j l h before now low stand none false since;
  job = λ j l job h before now low stand none since. job_offers_alone j l h before now low stand none job since;
  looks = λ j l jobs h before now low stand none since. looks_alone j l h before now low stand none jobs since;
}
