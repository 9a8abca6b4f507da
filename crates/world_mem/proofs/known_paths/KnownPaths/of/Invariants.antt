use Rattle.std.proofs.Common.{[], take}
use Rattle.world_mem.specs.Known.{StandsFor}
use Rattle.world_mem.proofs.known_paths.KnownPaths.of.Given as goal

-- the files so far are known
abbrev pub invariant-loop-path : goal.invariant-loop-path
invariant-loop-path l = StandsFor (take l.path-index l.start.files.items) [] l.known.items.items
