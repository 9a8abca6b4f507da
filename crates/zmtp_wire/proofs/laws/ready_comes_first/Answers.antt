use Rattle.zmtp_wire.proofs.ShakenLemmas.{none_before}
use Rattle.zmtp_wire.proofs.laws.ready_comes_first.Goals as goal

pub returns : goal.returns
returns c = none_before
