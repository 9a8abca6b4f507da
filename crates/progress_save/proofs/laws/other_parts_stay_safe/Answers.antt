use Rattle.progress_save.specs.Safe.{IsText, IsLastOrNext}
use Rattle.progress_save.proofs.ManySaves.{parts_stay}
use Rattle.progress_save.proofs.laws.other_parts_stay_safe.Goals as goal

pub returns-clause-safe : goal.returns-clause-safe
returns-clause-safe c output texts before after since h = parts_stay (IsLastOrNext texts) output before after since h

pub returns-clause-held : goal.returns-clause-held
returns-clause-held c output texts before after since h = parts_stay (IsText texts) output before after since h
