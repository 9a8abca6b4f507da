use Rattle.std.proofs.Common.{subst}
use Rattle.toy_core.specs.Standing.{Standing}
use Rattle.toy_core.specs.Toy.{Is}
use Rattle.toy_core.proofs.Giving.{gave_is}
use Rattle.toy_core.proofs.toy.ToyKernelSide.give.Goals as goal

pub returns-clause-stands : goal.returns-clause-stands
returns-clause-stands c = λ calls st. record {
  unstarved = st.unstarved;
  machine =
      subst (λ (s : Standing). Is c.give.new.self s) (gave_is c.args.chan _ c.give.result c.give.new.buf _ c.give.ensures.answer)
      (c.give.ensures.stands _ st.machine);
}
