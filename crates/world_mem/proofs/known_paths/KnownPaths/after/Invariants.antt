use Rattle.std.proofs.Common.{reverse, take}
use Rattle.world_mem.specs.Known.{StandsFor}
use Rattle.world_mem.proofs.known_paths.KnownPaths.after.Given as goal

-- the entries so far are known
abbrev pub invariant-loop-entry : goal.invariant-loop-entry
invariant-loop-entry l = StandsFor l.start.files.items (reverse (take l.entry-index l.entries)) l.known.items.items
