use Rattle.progress_save.specs.Kept.{KeepsSame}
use Rattle.progress_save.proofs.KeptLemmas.{Made}
use Rattle.progress_save.proofs.kept_texts.KeptTexts.complete.Given as goal

abbrev pub invariant-loop-i : goal.invariant-loop-i
invariant-loop-i l = record { same : KeepsSame l.fn.self l.self; made : Made l.self l.cells l.i }
