use Rattle.run_journal.proofs.Lasting.{heard_looks, looks_hear}
use Rattle.run_journal.proofs.laws.causes.all_heard_hears.Goals as goal

pub returns : goal.returns
returns c = record { looks = heard_looks; stops = looks_hear }
