-- What a world and a kernel keep that do nothing.
use Rattle.std.specs.Prelude.{ℕ, List, [], ◌∷◌}
use Rattle.world.specs.Calls.{Call, Ticked, Accepted, Took, Gave}
use Rattle.world.specs.Counts.{Counts}
use Rattle.world_mem.specs.declared.null_world.NullWorld.{NullWorld}

-- the counts of the world
abbrev pub counts_of : NullWorld → Counts
counts_of w = record {
  disk = w.disk_faults;
  net = w.net_faults;
  waits = w.waits;
  child = w.child_faults;
  rand = w.rand_faults;
  say = w.say_faults;
  last = w.journal.last;
}

-- the moment of a call of a kernel
abbrev pub call_moment : Call → ℕ
call_moment (Ticked now) = now
call_moment (Accepted chan now answer) = now
call_moment (Took chan now bytes) = now
call_moment (Gave chan now room given) = now

-- the moment of the newest call, or 0
abbrev pub newest_moment : List Call → ℕ
newest_moment [] = 0
newest_moment (call ∷ calls) = call_moment call
