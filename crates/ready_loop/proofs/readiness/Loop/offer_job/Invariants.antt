use Rattle.std.proofs.Common.{◌≡◌, ◌≤◌, ◌*◌, ℕ, false}
use Rattle.world.specs.Counts.{NetCause}
use Rattle.ready_loop.specs.History.{no_change}
use Rattle.ready_loop.specs.Offers.{JobMoment}
use Rattle.ready_loop.specs.Standing.{Goes, CallsOfLoop}
use Rattle.world.specs.Told.{Between}
use Rattle.ready_loop.specs.States.{IsDrained, SameKnown, failed_at, reads_left}
use Rattle.ready_loop.specs.Begins.{OnlyOfJob}
use Rattle.ready_loop.proofs.JobLemmas.{OfferedFrom}
use Rattle.ready_loop.specs.Wires.{ConnectsOn, ports_in}
use Rattle.ready_loop.proofs.readiness.Loop.offer_job.Given as goal

abbrev pub invariant-loop-place : goal.invariant-loop-place
invariant-loop-place g l = record {
  wires : ConnectsOn g.W.Journal.journal l.fn.w l.w (ports_in l.self);
  ports : ports_in l.self ≡ ports_in l.fn.self;
  calls : CallsOfLoop g.W.Journal.journal l.fn.w l.w;
  goes : Between g.W.Journal.journal l.fn.w l.w (Goes (JobMoment l.job) no_change l.fn.self l.self);
  offered : OfferedFrom (4 * l.job) l.place (g.W.Journal.counts l.w).last l.self;
  only : OnlyOfJob l.job l.fn.self l.self;
  from : 4 * l.job ≤ l.place;
  drained : IsDrained l.fn.self → IsDrained l.self;
  known : SameKnown l.fn.self l.self;
  reads : reads_left l.self ≤ reads_left l.fn.self;
  failed : (p : ℕ) → failed_at l.self p ≡ failed_at l.fn.self p;
  cause : NetCause (g.W.Journal.counts l.fn.w) (g.W.Journal.counts l.w) ⊥;
}
