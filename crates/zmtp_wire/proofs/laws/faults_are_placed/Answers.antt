use Rattle.zmtp_wire.proofs.MeaningLemmas.{fault_placed, fault_within, fault_caused}
use Rattle.zmtp_wire.proofs.laws.faults_are_placed.Goals as goal

pub returns : goal.returns
returns c = record { place = fault_placed; within = fault_within; cause = fault_caused }
