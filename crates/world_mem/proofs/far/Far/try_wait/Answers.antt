use Rattle.std.proofs.Common.{◌∙◌, sym}
use Rattle.std.proofs.lemmas.Bool.{false≢true}
use Rattle.world_mem.proofs.ReportLemmas.{none_reported}
use Rattle.world_mem.proofs.far.Far.try_wait.Goals as goal

pub returns-in-Failed-clause-up : goal.returns-in-Failed-clause-up
returns-in-Failed-clause-up g c = λ p e. absurd (false≢true (sym (none_reported 64 p) ∙ e))
