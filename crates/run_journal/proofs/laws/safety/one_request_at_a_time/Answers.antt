use Rattle.run_journal.proofs.Safety.{all_but_last, few_requests}
use Rattle.run_journal.proofs.laws.safety.one_request_at_a_time.Goals as goal

pub returns : goal.returns
returns c = record {
  passed = all_but_last;
  saved = λ j past. (few_requests j past).0;
  planned = λ j past. (few_requests j past).1;
}
