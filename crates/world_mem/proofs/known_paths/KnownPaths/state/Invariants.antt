use Rattle.std.proofs.Common.{◌≡◌, drop}
use Rattle.world_mem.specs.Known.{place_in}
use Rattle.world_mem.proofs.known_paths.KnownPaths.state.Given as goal

-- the path is none of those so far
abbrev pub invariant-loop-name : goal.invariant-loop-name
invariant-loop-name l = place_in l.self.items.items l.path ≡ place_in (drop l.name-index l.self.items.items) l.path
