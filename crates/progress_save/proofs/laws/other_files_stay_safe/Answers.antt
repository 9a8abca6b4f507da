use Rattle.std.proofs.Common.{◌∷◌, sym, subst}
use Rattle.world.specs.Disk.{place}
use Rattle.save_disk.specs.Places.{save_count}
use Rattle.progress_save.specs.Safe.{IsText, IsLastOrNext, IsPlace}
use Rattle.progress_save.proofs.ManySaves.{spared_stays}
use Rattle.progress_save.proofs.laws.other_files_stay_safe.Goals as goal

pub returns-clause-safe : goal.returns-clause-safe
returns-clause-safe c output texts entry past spared same h =
    subst (λ n. IsPlace (IsLastOrNext texts n) (place (entry ∷ past) output)) (sym same) (spared_stays (IsLastOrNext texts (save_count output past)) output entry past spared h)

pub returns-clause-held : goal.returns-clause-held
returns-clause-held c output texts entry past spared same h =
    subst (λ n. IsPlace (IsText texts n) (place (entry ∷ past) output)) (sym same) (spared_stays (IsText texts (save_count output past)) output entry past spared h)
