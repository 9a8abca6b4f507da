use Rattle.std.proofs.Common.{ℕ, List, ◌++◌, ◌≤◌, take, length}
use Rattle.toy_core.specs.Acts.{octets_on}
use Rattle.toy_core.specs.Pouring.{Poured}
use Rattle.toy_core.proofs.pouring.Pouring.pour_acts.Given as goal

abbrev pub invariant-loop-act : goal.invariant-loop-act
invariant-loop-act l = record {
  poured : (given : ℕ) (all : List ℕ) → Poured given all l.initial.self l.initial.buf → Poured given (all ++ octets_on l.on (take l.act-index l.acts)) l.self l.buf;
  within : l.self.filled ≤ length l.buf;
}
