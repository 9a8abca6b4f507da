use Rattle.world.proofs.StatusLemmas.{connected_begun}
use Rattle.world.proofs.laws.connected_ports_are_known.Goals as goal

pub returns : goal.returns
returns c = λ conn number how past. connected_begun conn number how past
