use Rattle.std.proofs.Common.{◌≡◌, ℕ, ◌<◌, length, true, Some}
use Rattle.std.specs.Prelude.{slice_get}
use Rattle.progress_save.proofs.kept_texts.KeptTexts.keep_all.Given as goal

abbrev pub invariant-loop-i : goal.invariant-loop-i
invariant-loop-i l = record {
  texts : l.self.texts ≡ l.fn.self.texts;
  places : length l.self.stands ≡ length l.fn.self.stands;
  bound : l.i-end ≡ length l.fn.self.stands;
  stand : (j : ℕ) → j < l.i → slice_get l.self.stands j ≡ Some true;
}
