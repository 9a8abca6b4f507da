use Rattle.std.proofs.Common.{◌≡◌, take}
use Rattle.world_mem.proofs.path_state.copy_lefts.Given as goal

-- the options so far were copied
abbrev pub invariant-loop-left : goal.invariant-loop-left
invariant-loop-left l = l.copy.items ≡ take l.left-index l.lefts
