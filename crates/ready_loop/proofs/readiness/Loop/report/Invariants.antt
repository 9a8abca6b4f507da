use Rattle.std.proofs.Common.{◌≡◌}
use Rattle.world.specs.Places.{is_reported}
use Rattle.ready_loop.specs.Link.{wait_link}
use Rattle.ready_loop.specs.States.{MapsBelow}
use Rattle.ready_loop.specs.Wires.{ports_in}
use Rattle.ready_loop.proofs.readiness.Loop.report.Given as goal

abbrev pub invariant-loop-place : goal.invariant-loop-place
invariant-loop-place l = record {
  all : MapsBelow l.place (λ p. wait_link l.did (is_reported p l.reports.ready)) l.fn.self.links l.self.links;
  ports : ports_in l.self ≡ ports_in l.fn.self;
  same : l.self ≡ record l.fn.self { links = l.self.links };
}
