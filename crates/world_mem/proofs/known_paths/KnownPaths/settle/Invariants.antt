use Rattle.std.proofs.Common.{◌≡◌, map}
use Rattle.world_mem.specs.Known.{settled_in}
use Rattle.world_mem.proofs.known_paths.KnownPaths.settle.Given as goal

-- those so far were settled
abbrev pub invariant-loop-path : goal.invariant-loop-path
invariant-loop-path l = l.items.items ≡ map (settled_in l.dir l.did) l.yielded
