use Rattle.std.proofs.Common.{◌≡◌, ◌++◌, take, drop}
use Rattle.world_mem.specs.Known.{put_in}
use Rattle.world_mem.proofs.known_paths.KnownPaths.put.Given as goal

-- the path comes behind those so far
abbrev pub invariant-loop-i : goal.invariant-loop-i
invariant-loop-i l = record {
  same : l.self.items.items ≡ l.initial.self.items.items;
  behind : put_in l.path l.state l.self.items.items ≡ take l.i l.self.items.items ++ put_in l.path l.state (drop l.i l.self.items.items);
}
