use Rattle.std.proofs.Common.{rules}
use Rattle.world_real.proofs.PortLemmas.{five_different}
use Rattle.world_real.proofs.given_ports.GivenPorts.five_of.Goals as goal

pub returns-then-is_fresh-5-clause-fresh : goal.returns-then-is_fresh-5-clause-fresh
returns-then-is_fresh-5-clause-fresh c =
    record {
      above = search rules;
      different = five_different c.args.a c.args.b c.args.c c.args.d c.args.e c.if-a-b.false c.if-a-c.false c.if-a-d.false c.if-a-e.false c.if-b-c.false c.if-b-d.false c.if-b-e.false c.if-c-d.false c.if-c-e.false c.if-d-e.false;
      fresh = search rules;
    }
