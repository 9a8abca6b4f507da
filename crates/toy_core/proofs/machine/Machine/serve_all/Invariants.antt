use Rattle.toy_core.specs.Standing.{Standing, served_all}
use Rattle.toy_core.specs.Toy.{Is}
use Rattle.toy_core.specs.Dues.{Keeps}
use Rattle.toy_core.proofs.machine.Machine.serve_all.Given as goal

abbrev pub invariant-loop-body : goal.invariant-loop-body
invariant-loop-body l = record {
  stands : (s : Standing) → Is l.initial.self s → Is l.self (served_all l.now l.key l.chan l.yielded s);
  keeps : Keeps l.initial.self.lanes l.self.lanes;
}
