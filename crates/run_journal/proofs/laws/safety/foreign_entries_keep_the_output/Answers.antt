use Rattle.progress_save.specs.Safe.{IsText, IsLastOrNext}
use Rattle.run_journal.proofs.Safety.{foreign_place}
use Rattle.run_journal.proofs.laws.safety.foreign_entries_keep_the_output.Goals as goal

pub returns : goal.returns
returns c = record {
  safe = λ texts count. foreign_place (IsLastOrNext texts count);
  held = λ texts count. foreign_place (IsText texts count);
}
