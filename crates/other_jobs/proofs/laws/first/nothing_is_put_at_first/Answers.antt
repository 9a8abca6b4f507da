use Rattle.other_jobs.proofs.Firsts.{unput_begins, unput_bytes, unput_calls, unput_closes, unput_offers}
use Rattle.other_jobs.proofs.laws.first.nothing_is_put_at_first.Goals as goal

pub returns : goal.returns
returns c = record {
  bytes = unput_bytes;
  calls = unput_calls;
  begins = λ j job ports chans result before now b. unput_begins j job ports chans result before now b;
  closes = unput_closes;
  offers = unput_offers;
}
