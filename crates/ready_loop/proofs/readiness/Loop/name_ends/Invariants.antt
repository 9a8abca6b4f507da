use Rattle.std.proofs.Common.{◌≡◌, ◌<◌, ◌≤◌, ℕ, length, slice_get, Some}
use Rattle.ready_loop.specs.Link.{named_link}
use Rattle.ready_loop.specs.States.{MapsBelow, found_at, reads_left}
use Rattle.ready_loop.specs.Wires.{ports_in}
use Rattle.ready_loop.proofs.readiness.Loop.name_ends.Given as goal

abbrev pub invariant-loop-place : goal.invariant-loop-place
invariant-loop-place l = record {
  size : length l.names ≡ 64;
  named : (p : ℕ) → p < l.place → slice_get l.names p ≡ Some (found_at l.fn.self p);
  all : MapsBelow l.place (λ p. named_link) l.fn.self.links l.self.links;
  ports : ports_in l.self ≡ ports_in l.fn.self;
  reads : reads_left l.self ≤ reads_left l.fn.self;
  same : l.self ≡ record l.fn.self { links = l.self.links };
}
