use Rattle.std.proofs.Common.{refl, ap}
use Rattle.zmtp_wire.specs.declared.state.State.TheVariants.{Greeting}
use Rattle.zmtp_wire.proofs.FeedLemmas.{new-stands}
use Rattle.zmtp_wire.proofs.decoder.Decoder.new.Goals as goal

pub returns-clause-stands : goal.returns-clause-stands
returns-clause-stands c = new-stands _ refl c.new.ensures.major c.new.ensures.minor (ap (λ p. Greeting p) c.new-2.ensures) c.new-3.ensures
