use Rattle.zmtp_wire.proofs.MeaningLemmas.{is_stream, only_stream, is_broken, the_fault}
use Rattle.zmtp_wire.proofs.laws.octets_are.Goals as goal

pub returns : goal.returns
returns c = record { stream = is_stream; only_stream = only_stream; broken = is_broken; only_broken = the_fault }
