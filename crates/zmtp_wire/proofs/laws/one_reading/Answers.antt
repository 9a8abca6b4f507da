use Rattle.zmtp_wire.proofs.LawLemmas.{either, never_both}
use Rattle.zmtp_wire.proofs.OutcomeLemmas.{one_stream, one_fault}
use Rattle.zmtp_wire.proofs.GivesLemmas.{gives_one}
use Rattle.zmtp_wire.proofs.laws.one_reading.Goals as goal

pub returns : goal.returns
returns c = record { one = either; not_both = never_both; one_stream = one_stream; one_fault = one_fault; gives_one = gives_one }
