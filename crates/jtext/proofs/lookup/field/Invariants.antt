use Rattle.std.proofs.Common.{◌≡◌, drop}
use Rattle.jtext.specs.Find.{find, fields}
use Rattle.jtext.proofs.lookup.field.Given as goal

abbrev pub invariant-loop-pair : goal.invariant-loop-pair
invariant-loop-pair l = find l.key (drop l.pair-index l.pair-items) ≡ find l.key (fields l.t)
