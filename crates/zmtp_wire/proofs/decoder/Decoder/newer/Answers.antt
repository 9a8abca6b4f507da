use Rattle.std.proofs.Common.{refl}
use Rattle.zmtp_wire.proofs.MeaningLemmas.{stands_unstarved}
use Rattle.zmtp_wire.proofs.decoder.Decoder.newer.Goals as goal

pub returns-then-is_starved-clause-is : goal.returns-then-is_starved-clause-is
returns-then-is_starved-clause-is c = λ b given s. absurd (stands_unstarved _ b given s (c.if-is_starved.ensures.0 refl))
