use Rattle.std.proofs.Common.{take}
use Rattle.toy_core.specs.Acts.{octets_on}
use Rattle.toy_core.specs.Standing.{Lines, perform_all}
use Rattle.toy_core.specs.Toy.{AreLines}
use Rattle.toy_core.specs.Dues.{SendsAll}
use Rattle.toy_core.proofs.lanes.Lanes.perform.Given as goal

abbrev pub invariant-loop-i : goal.invariant-loop-i
invariant-loop-i l = record {
  lines : (ls : Lines) → AreLines l.initial.self ls → AreLines l.self (perform_all (take l.i l.acts) ls);
  sends : SendsAll (λ c. octets_on c (take l.i l.acts)) l.initial.self l.self;
}
