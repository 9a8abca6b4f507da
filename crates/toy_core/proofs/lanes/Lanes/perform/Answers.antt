use Rattle.std.proofs.Common.{List, take, arith, sym, subst}
use Rattle.std.proofs.lemmas.List.{take_all}
use Rattle.toy_core.specs.declared.act.Act.{Act}
use Rattle.toy_core.specs.Acts.{octets_on}
use Rattle.toy_core.specs.Dues.{SendsAll}
use Rattle.toy_core.proofs.Happening.{performed_more}
use Rattle.toy_core.proofs.Keeping.{sends_all_none, sends_more, sends_no_more}
use Rattle.toy_core.proofs.lanes.Lanes.perform.Goals as goal

pub loop-i-init : goal.loop-i-init
loop-i-init c = record { lines = λ ls a. a; sends = sends_all_none _ }

pub loop-i-preserved : goal.loop-i-preserved
loop-i-preserved c = record {
  lines = λ ls a.
      rw (performed_more c.args.acts.now c.loop-i.i c.index-acts-i.result ls (omega arith) c.index-acts-i.is)
      (c.in-Ok.ensures.lines _ (c.loop-i.invariant.lines ls a));
  sends =
      sends_more c.args.acts.now c.loop-i.i c.index-acts-i.result _ _ _ (omega arith) c.index-acts-i.is c.loop-i.invariant.sends
      c.in-Ok.ensures.sends;
}

pub returns-in-Err-clause-part : goal.returns-in-Err-clause-part
returns-in-Err-clause-part c = sends_no_more (take c.loop-i.i c.args.acts.now) _ _ _ c.loop-i.invariant.sends c.in-Err.ensures.err

pub returns-clause-lines : goal.returns-clause-lines
returns-clause-lines c = λ ls a.
    rw (sym (take_all c.loop-i.i c.args.acts.now (omega arith))) (c.loop-i.invariant.lines ls a)

pub returns-clause-sends : goal.returns-clause-sends
returns-clause-sends c =
    subst (λ (acts : List Act). SendsAll (λ x. octets_on x acts) c.args.self.now c.loop-i.self) (take_all c.loop-i.i c.args.acts.now (omega arith)) c.loop-i.invariant.sends
