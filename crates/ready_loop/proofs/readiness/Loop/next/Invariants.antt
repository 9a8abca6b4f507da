use Rattle.std.proofs.Common.{◌≡◌, ◌<◌, ◌≤◌, ℕ, length}
use Rattle.world.specs.Moments.{Since}
use Rattle.world.specs.Counts.{NetCause}
use Rattle.ready_loop.specs.History.{no_change}
use Rattle.ready_loop.specs.Reads.{ReadMoment, IsDry}
use Rattle.ready_loop.specs.Standing.{Goes, CallsOfLoop}
use Rattle.world.specs.Told.{Between}
use Rattle.ready_loop.specs.States.{IsDrained, IsOffered, EachBelow, NotRead, SameKnown, failed_at, reads_left}
use Rattle.ready_loop.specs.Wires.{ConnectsOn, ports_in}
use Rattle.ready_loop.proofs.readiness.Loop.next.Given as goal

abbrev pub invariant-loop-place : goal.invariant-loop-place
invariant-loop-place g l = record {
  room : length l.buf ≡ length l.fn.buf;
  some : 0 < length l.buf;
  wires : ConnectsOn g.W.Journal.journal l.fn.w l.w (ports_in l.self);
  ports : ports_in l.self ≡ ports_in l.fn.self;
  calls : CallsOfLoop g.W.Journal.journal l.fn.w l.w;
  goes : Between g.W.Journal.journal l.fn.w l.w (Goes ReadMoment no_change l.fn.self l.self);
  dry : Between g.W.Journal.journal l.fn.w l.w (Since IsDry);
  below : EachBelow l.place l.self.links NotRead;
  reads : reads_left l.self ≤ reads_left l.fn.self;
  none : IsDrained l.fn.self → l.self ≡ l.fn.self;
  offered : IsOffered l.fn.self → IsOffered l.self;
  known : SameKnown l.fn.self l.self;
  failed : (p : ℕ) → failed_at l.self p ≡ failed_at l.fn.self p;
  same : l.self ≡ record l.fn.self { links = l.self.links };
  cause : NetCause (g.W.Journal.counts l.fn.w) (g.W.Journal.counts l.w) ⊥;
}
