use Rattle.std.proofs.Common.{◌≡◌}
use Rattle.world_real.proofs.port_block.PortBlock.free_port.Given as goal

abbrev pub invariant-loop : goal.invariant-loop
invariant-loop g l = l.self.first ≡ l.fn.self.first
