use Rattle.std.proofs.Common.{◌≡◌, take}
use Rattle.world_mem.proofs.copies.copy_fields.Given as goal

-- the items so far were copied
abbrev pub invariant-loop-key : goal.invariant-loop-key
invariant-loop-key l = (l.copy ≡ take l.key-index l.key-items) × (l.key-items ≡ l.fields)
