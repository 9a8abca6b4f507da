use Rattle.std.proofs.Common.{◌≡◌}
use Rattle.world_real.proofs.drawing.PortDrawer.draw.Given as goal

abbrev pub invariant-loop : goal.invariant-loop
invariant-loop g l = l.self.given ≡ l.fn.self.given
