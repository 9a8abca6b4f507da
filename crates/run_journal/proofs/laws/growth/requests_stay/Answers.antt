use Rattle.run_journal.proofs.Growth.{requests_go_on, over_stays, reply_stays, used_stays}
use Rattle.run_journal.proofs.laws.growth.requests_stay.Goals as goal

pub returns : goal.returns
returns c = record {
  go_on = requests_go_on;
  over = over_stays;
  reply = reply_stays;
  used = λ r s cell g. used_stays r s g cell;
}
