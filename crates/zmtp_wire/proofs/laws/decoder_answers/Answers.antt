use Rattle.zmtp_wire.proofs.MeaningLemmas.{decoder_answer, brought}
use Rattle.zmtp_wire.proofs.laws.decoder_answers.Goals as goal

pub returns : goal.returns
returns c = record { answer = decoder_answer; brings = brought }
