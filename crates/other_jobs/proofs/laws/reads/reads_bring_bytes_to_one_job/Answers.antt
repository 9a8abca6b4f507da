use Rattle.other_jobs.proofs.Reading.{next_brings}
use Rattle.other_jobs.proofs.laws.reads.reads_bring_bytes_to_one_job.Goals as goal

pub returns : goal.returns
returns c = next_brings
