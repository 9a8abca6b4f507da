use Rattle.std.proofs.Common.{◌≡◌, ◌≤◌, ℕ, false}
use Rattle.world.specs.Counts.{NetCause}
use Rattle.ready_loop.specs.History.{no_change}
use Rattle.ready_loop.specs.Offers.{OfferAt}
use Rattle.ready_loop.specs.Standing.{Goes, CallsOfLoop}
use Rattle.world.specs.Told.{Between}
use Rattle.ready_loop.specs.States.{IsDrained, IsCalmAt, OnlyAt, SameKnown, load, failed_at, reads_left}
use Rattle.ready_loop.specs.Wires.{ConnectsOn, ports_in}
use Rattle.ready_loop.proofs.readiness.Loop.write_all.Given as goal

abbrev pub invariant-loop-conn : goal.invariant-loop-conn
invariant-loop-conn g l = record {
  wires : ConnectsOn g.W.Journal.journal l.fn.w l.w (ports_in l.self);
  ports : ports_in l.self ≡ ports_in l.fn.self;
  calls : CallsOfLoop g.W.Journal.journal l.fn.w l.w;
  goes : Between g.W.Journal.journal l.fn.w l.w (Goes (OfferAt false l.place) no_change l.fn.self l.self);
  only : OnlyAt l.place l.fn.self l.self;
  calm : IsCalmAt l.place (g.W.Journal.counts l.w).last l.self;
  drained : IsDrained l.fn.self → IsDrained l.self;
  known : SameKnown l.fn.self l.self;
  reads : reads_left l.self ≤ reads_left l.fn.self;
  failed : (p : ℕ) → failed_at l.self p ≡ failed_at l.fn.self p;
  cause : NetCause (g.W.Journal.counts l.fn.w) (g.W.Journal.counts l.w) ⊥;
}

abbrev pub decreases-loop-conn : goal.decreases-loop-conn
decreases-loop-conn g l = load l.place l.self
