use Rattle.std.proofs.Common.{refl}
use Rattle.zmtp_wire.proofs.MeaningLemmas.{stands_unstarved, contexts_given}
use Rattle.zmtp_wire.proofs.decoder.Decoder.owed.Goals as goal

pub returns-then-is_starved-clause-contexts : goal.returns-then-is_starved-clause-contexts
returns-then-is_starved-clause-contexts c = λ b given s. absurd (stands_unstarved _ b given s (c.if-is_starved.ensures.0 refl))

pub returns-clause-contexts : goal.returns-clause-contexts
returns-clause-contexts c = λ b given s. contexts_given _ b given c.replace.result c.replace.ensures.value s
