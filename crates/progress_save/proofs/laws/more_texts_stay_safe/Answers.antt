use Rattle.save_disk.specs.Places.{save_count}
use Rattle.progress_save.proofs.ManySaves.{weaker_place, text_before, last_or_next_before}
use Rattle.progress_save.proofs.laws.more_texts_stay_safe.Goals as goal

pub returns-clause-safe : goal.returns-clause-safe
returns-clause-safe c output texts more now h = weaker_place (last_or_next_before (save_count output now) texts more) h

pub returns-clause-held : goal.returns-clause-held
returns-clause-held c output texts more now h = weaker_place (text_before (save_count output now) texts more) h
