use Rattle.std.proofs.Common.{◌≡◌, take}
use Rattle.world_mem.proofs.copies.copy_texts.Given as goal

-- the items so far were copied
abbrev pub invariant-loop-text : goal.invariant-loop-text
invariant-loop-text l = (l.copy ≡ take l.text-index l.text-items) × (l.text-items ≡ l.texts)
