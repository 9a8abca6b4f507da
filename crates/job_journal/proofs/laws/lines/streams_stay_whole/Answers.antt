use Rattle.job_journal.proofs.Breaking.{whole_same, whole_there}
use Rattle.job_journal.proofs.laws.lines.streams_stay_whole.Goals as goal

pub returns : goal.returns
returns c = record {
  there = whole_there;
  whole = whole_same;
}
