use Rattle.std.proofs.Common.{rules, All, subst, sym, arith}
use Rattle.world_real.specs.Ports.{IsOfBlock}
use Rattle.world_real.proofs.drawing.five_of.Goals as goal

pub returns-in-Some-clause-block : goal.returns-in-Some-clause-block
returns-in-Some-clause-block g c =
    let a : IsOfBlock c.args.block.now.first c.in_ok-a.a = (omega arith, omega arith) in
    let b : IsOfBlock c.args.block.now.first c.in_ok-b.b = (omega arith, omega arith) in
    let d : IsOfBlock c.args.block.now.first c.in_ok-c.c = (omega arith, omega arith) in
    let e : IsOfBlock c.args.block.now.first c.in_ok-d.d = (omega arith, omega arith) in
    let f : IsOfBlock c.args.block.now.first c.in_ok-e.e = (omega arith, omega arith) in
    record {
      first = c.args.block.now.first;
      low = omega arith;
      within = subst (λ ports. All (IsOfBlock c.args.block.now.first) ports) (sym c.in-Some.ensures.are) (search rules);
    }
