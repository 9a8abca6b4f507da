use Rattle.ready_loop.proofs.BeginLemmas.{mended}
use Rattle.ready_loop.proofs.laws.a_close_mends_a_fault.Goals as goal

pub returns : goal.returns
returns c = mended
