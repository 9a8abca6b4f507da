use Rattle.job_journal.proofs.Heard.{hears_nothing, hears_none, hears_one}
use Rattle.job_journal.proofs.laws.heard.bodies_are_heard.Goals as goal

pub returns : goal.returns
returns c = record {
  first = hears_nothing;
  unsigned = hears_none;
  signed = hears_one;
}
