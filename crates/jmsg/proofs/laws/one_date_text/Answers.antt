use Rattle.jmsg.proofs.DateLemmas.{one_date}
use Rattle.jmsg.proofs.CalendarLemmas.{date_is}
use Rattle.jmsg.proofs.laws.one_date_text.Goals as goal

pub returns : goal.returns
returns c = record { one = one_date; date = date_is }
