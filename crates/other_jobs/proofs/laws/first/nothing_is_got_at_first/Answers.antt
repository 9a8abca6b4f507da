use Rattle.other_jobs.proofs.Firsts.{unread_begins, unread_calls, unread_quiet}
use Rattle.other_jobs.proofs.laws.first.nothing_is_got_at_first.Goals as goal

pub returns : goal.returns
returns c = record {
  calls = unread_calls;
  begins = λ j job ports chans result before now b. unread_begins j job ports chans result before now b;
  quiet = unread_quiet;
}
