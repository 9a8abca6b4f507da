use Rattle.zmtp_wire.proofs.MeaningLemmas.{meant, meant_alone, shaken_meant}
use Rattle.zmtp_wire.proofs.ContextLemmas.{contexts_short}
use Rattle.zmtp_wire.proofs.laws.octets_give.Goals as goal

pub returns : goal.returns
returns c = record { gives = meant; only = meant_alone; shaken = shaken_meant; short = contexts_short }
