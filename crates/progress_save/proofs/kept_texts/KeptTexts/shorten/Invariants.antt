use Rattle.std.proofs.Common.{length}
use Rattle.progress_save.specs.Kept.{KeepsSame}
use Rattle.progress_save.proofs.kept_texts.KeptTexts.shorten.Given as goal

abbrev pub invariant-loop-self : goal.invariant-loop-self
invariant-loop-self l = KeepsSame l.fn.self l.self

abbrev pub decreases-loop-self : goal.decreases-loop-self
decreases-loop-self l = length l.self.texts
