use Rattle.run_journal.proofs.Finishing.{looks_end}
use Rattle.run_journal.proofs.Rereading.{begins_unread_by}
use Rattle.run_journal.proofs.Settling.{why_settled}
use Rattle.run_journal.proofs.Unheld.{all_timely}
use Rattle.run_journal.proofs.laws.rules.core_stops_as_the_run.Goals as goal

pub returns : goal.returns
returns c jobs j past dec plan limits runs k h t w f none =
    let u = begins_unread_by jobs j past k.among k.awake t in
    why_settled jobs j past dec plan limits k h u f (all_timely jobs j dec plan limits past runs k h u f).0 (looks_end jobs j past k h w) none
