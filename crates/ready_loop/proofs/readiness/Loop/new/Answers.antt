use Rattle.ready_loop.proofs.NewLemmas.{new_stands, new_ready, new_fresh, new_holds}
use Rattle.ready_loop.proofs.WireLemmas.{new_ports}
use Rattle.ready_loop.proofs.readiness.Loop.new.Goals as goal

pub returns-clause-stands : goal.returns-clause-stands
returns-clause-stands c = new_stands c.in_ok-new.field-0 c.in_ok-new-2.field-0 c.args.turns c.in_ok-new.ensures c.in_ok-new-2.ensures

pub returns-clause-ready : goal.returns-clause-ready
returns-clause-ready c = new_ready (record { links = c.in_ok-new.field-0; queues = c.in_ok-new-2.field-0; left = c.args.turns }) c.in_ok-new.ensures

pub returns-clause-fresh : goal.returns-clause-fresh
returns-clause-fresh c = new_fresh (record { links = c.in_ok-new.field-0; queues = c.in_ok-new-2.field-0; left = c.args.turns }) c.in_ok-new.ensures

pub returns-clause-holds : goal.returns-clause-holds
returns-clause-holds c = new_holds (record { links = c.in_ok-new.field-0; queues = c.in_ok-new-2.field-0; left = c.args.turns }) c.in_ok-new-2.ensures

pub returns-clause-ports : goal.returns-clause-ports
returns-clause-ports c = new_ports c.in_ok-new.field-0 c.in_ok-new.ensures
