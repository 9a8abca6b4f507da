use Rattle.std.proofs.Common.{rules, arith, ◌≡◌, ◌∙◌, ◌∷◌, ℕ, ap, take, subst, refl, Some, slice_get, Bool, ◌||◌}
use Rattle.world.specs.declared.entry.Entry.TheVariants as made
use Rattle.world.specs.Moments.{start, more}
use Rattle.world.proofs.MomentsLemmas.{told_start, told_one, told_then}
use Rattle.ready_loop.specs.declared.readiness.Loop.{Loop}
use Rattle.ready_loop.proofs.StandLemmas.{goes_start, goes_then}
use Rattle.ready_loop.proofs.StateLemmas.{sound_as, known_start, known_then, each_next, and_here, not_drained, well_before}
use Rattle.ready_loop.proofs.PartLemmas.{calls_start, calls_then}
use Rattle.ready_loop.proofs.WireLemmas.{grows_same, wired_start, wired_then}
use Rattle.std.proofs.lemmas.Bool.{false≢true}
use Rattle.world.specs.declared.conn.Conn.{Conn}
use Rattle.world.specs.Places.{is_at}
use Rattle.ready_loop.specs.Link.{MayRead}
use Rattle.ready_loop.specs.States.{IsWell, NotRead}
use Rattle.ready_loop.proofs.FaultLemmas.{cause_as, cause_last}
use Rattle.ready_loop.proofs.readiness.Loop.next.Goals as goal

pub loop-place-init : goal.loop-place-init
loop-place-init g c = record {
  wires = wired_start;
  ports = refl;
  calls = calls_start;
  room = search rules;
  some = search rules;
  goes = told_start (λ x. goes_start x);
  dry = told_start (λ x. start);
  below = λ p link low. absurd (omega arith);
  reads = search rules;
  none = search rules;
  offered = λ o. o;
  known = known_start c.args.self.now;
  failed = λ p. search rules;
  same = search rules;
  cause = search rules;
}

pub returns-in-Piece-clause-goes : goal.returns-in-Piece-clause-goes
returns-in-Piece-clause-goes g c = told_then c.loop-place.invariant.goes c.in-Piece.ensures.goes (λ x y z a b. goes_then (λ h now r. r) (λ h now r. r) a b)

pub returns-in-Piece-clause-came : goal.returns-in-Piece-clause-came
returns-in-Piece-clause-came g c = told_one c.loop-place.invariant.dry c.in-Piece.ensures.tells (λ x y s. record {
  past = y;
  dry = s;
  newest = ap (λ (room : ℕ). made.Got c.conn_at-conn.result room (take c.in-Piece.n c.read_at.new.buf) ∷ y) c.loop-place.invariant.room;
})

pub returns-in-Ended-clause-came : goal.returns-in-Ended-clause-came
returns-in-Ended-clause-came g c = told_one c.loop-place.invariant.dry c.in-Ended.ensures.tells (λ x y s. record { past = y; dry = s; newest = refl })

pub returns-in-Refused-clause-came : goal.returns-in-Refused-clause-came
returns-in-Refused-clause-came g c = told_one c.loop-place.invariant.dry c.in-Refused.ensures.tells (λ x y s. record { past = y; dry = s; newest = refl })

pub returns-in-Failed-clause-came : goal.returns-in-Failed-clause-came
returns-in-Failed-clause-came g c = told_one c.loop-place.invariant.dry c.in-Failed.ensures.tells (λ x y s. record { past = y; dry = s; newest = refl })

pub returns-in-Ended-clause-goes : goal.returns-in-Ended-clause-goes
returns-in-Ended-clause-goes g c = told_then c.loop-place.invariant.goes c.in-Ended.ensures.goes (λ x y z a b. goes_then (λ h now r. r) (λ h now r. r) a b)

pub returns-in-Refused-clause-goes : goal.returns-in-Refused-clause-goes
returns-in-Refused-clause-goes g c = told_then c.loop-place.invariant.goes c.in-Refused.ensures.goes (λ x y z a b. goes_then (λ h now r. r) (λ h now r. r) a b)

pub returns-in-Failed-clause-goes : goal.returns-in-Failed-clause-goes
returns-in-Failed-clause-goes g c = told_then c.loop-place.invariant.goes c.in-Failed.ensures.goes (λ x y z a b. goes_then (λ h now r. r) (λ h now r. r) a b)

pub loop-place-preserved : goal.loop-place-preserved
loop-place-preserved g c =
    let inv = c.loop-place.invariant in
    let read = c.in-Dry.ensures in
    record {
      room = omega arith;
      some = omega arith;
      wires = wired_then (grows_same read.ports) inv.wires read.wires;
      ports = read.ports ∙ inv.ports;
      calls = calls_then inv.calls read.calls;
      goes = told_then inv.goes read.goes (λ x y z a b. goes_then (λ h now r. r) (λ h now r. r) a b);
      dry = told_one inv.dry read.tells (λ x y s. more s tt);
      below = read.below refl inv.below;
      reads = omega (arith, inv.reads, read.reads);
      none = λ d. let e = inv.none d in absurd (d.each c.loop-place.place c.at.result c.loop-place-test.true (subst (λ (l : Loop). slice_get l.links c.loop-place.place ≡ Some c.at.result) e c.at.ensures.found) (c.if-not-may_read.ensures.0 (search rules)));
      offered = λ o. read.offered (inv.offered o);
      known = known_then inv.known read.known;
      failed = λ p. read.failed p ∙ inv.failed p;
      same = search rules;
      cause = search rules;
    }

pub returns-in-Piece-clause-sound : goal.returns-in-Piece-clause-sound
returns-in-Piece-clause-sound g c = λ s. sound_as c.args.self.now c.read_at.new.self (λ p. c.in-Piece.ensures.failed p ∙ c.loop-place.invariant.failed p) s

pub returns-in-Ended-clause-sound : goal.returns-in-Ended-clause-sound
returns-in-Ended-clause-sound g c = λ s. sound_as c.args.self.now c.read_at.new.self (λ p. c.in-Ended.ensures.failed p ∙ c.loop-place.invariant.failed p) s

pub returns-in-Refused-clause-sound : goal.returns-in-Refused-clause-sound
returns-in-Refused-clause-sound g c = λ s. sound_as c.args.self.now c.read_at.new.self (λ p. c.in-Refused.ensures.failed p ∙ c.loop-place.invariant.failed p) s

pub returns-clause-sound : goal.returns-clause-sound
returns-clause-sound g c = λ s. sound_as c.args.self.now c.loop-place.self c.loop-place.invariant.failed s

pub returns-in-Piece-clause-calls : goal.returns-in-Piece-clause-calls
returns-in-Piece-clause-calls g c = calls_then c.loop-place.invariant.calls c.in-Piece.ensures.calls

pub returns-in-Ended-clause-calls : goal.returns-in-Ended-clause-calls
returns-in-Ended-clause-calls g c = calls_then c.loop-place.invariant.calls c.in-Ended.ensures.calls

pub returns-in-Refused-clause-calls : goal.returns-in-Refused-clause-calls
returns-in-Refused-clause-calls g c = calls_then c.loop-place.invariant.calls c.in-Refused.ensures.calls

pub returns-in-Failed-clause-calls : goal.returns-in-Failed-clause-calls
returns-in-Failed-clause-calls g c = calls_then c.loop-place.invariant.calls c.in-Failed.ensures.calls

pub returns-in-Piece-clause-most : goal.returns-in-Piece-clause-most
returns-in-Piece-clause-most g c = omega (arith, c.loop-place.invariant.reads, c.in-Piece.ensures.reads)

pub returns-in-Piece-clause-reads : goal.returns-in-Piece-clause-reads
returns-in-Piece-clause-reads g c = λ other. omega (arith, c.loop-place.invariant.reads, c.in-Piece.ensures.reads)

pub returns-in-Ended-clause-most : goal.returns-in-Ended-clause-most
returns-in-Ended-clause-most g c = omega (arith, c.loop-place.invariant.reads, c.in-Ended.ensures.reads)

pub returns-in-Ended-clause-reads : goal.returns-in-Ended-clause-reads
returns-in-Ended-clause-reads g c = λ other. omega (arith, c.loop-place.invariant.reads, c.in-Ended.ensures.reads)

pub returns-in-Refused-clause-most : goal.returns-in-Refused-clause-most
returns-in-Refused-clause-most g c = omega (arith, c.loop-place.invariant.reads, c.in-Refused.ensures.reads)

pub returns-in-Refused-clause-reads : goal.returns-in-Refused-clause-reads
returns-in-Refused-clause-reads g c = λ other. omega (arith, c.loop-place.invariant.reads, c.in-Refused.ensures.reads)

pub returns-in-Failed-clause-most : goal.returns-in-Failed-clause-most
returns-in-Failed-clause-most g c = omega (arith, c.loop-place.invariant.reads, c.in-Failed.ensures.reads)

pub returns-in-Failed-clause-reads : goal.returns-in-Failed-clause-reads
returns-in-Failed-clause-reads g c = λ other. omega (arith, c.loop-place.invariant.reads, c.in-Failed.ensures.reads)

pub returns-clause-most : goal.returns-clause-most
returns-clause-most g c = c.loop-place.invariant.reads

pub returns-clause-reads : goal.returns-clause-reads
returns-clause-reads g c = λ other. absurd (other refl)

pub returns-in-Piece-clause-wires : goal.returns-in-Piece-clause-wires
returns-in-Piece-clause-wires g c = wired_then (grows_same c.in-Piece.ensures.ports) c.loop-place.invariant.wires c.in-Piece.ensures.wires

pub returns-in-Piece-clause-ports : goal.returns-in-Piece-clause-ports
returns-in-Piece-clause-ports g c = c.in-Piece.ensures.ports ∙ c.loop-place.invariant.ports

pub returns-in-Ended-clause-wires : goal.returns-in-Ended-clause-wires
returns-in-Ended-clause-wires g c = wired_then (grows_same c.in-Ended.ensures.ports) c.loop-place.invariant.wires c.in-Ended.ensures.wires

pub returns-in-Ended-clause-ports : goal.returns-in-Ended-clause-ports
returns-in-Ended-clause-ports g c = c.in-Ended.ensures.ports ∙ c.loop-place.invariant.ports

pub returns-in-Refused-clause-wires : goal.returns-in-Refused-clause-wires
returns-in-Refused-clause-wires g c = wired_then (grows_same c.in-Refused.ensures.ports) c.loop-place.invariant.wires c.in-Refused.ensures.wires

pub returns-in-Refused-clause-ports : goal.returns-in-Refused-clause-ports
returns-in-Refused-clause-ports g c = c.in-Refused.ensures.ports ∙ c.loop-place.invariant.ports

pub returns-in-Failed-clause-wires : goal.returns-in-Failed-clause-wires
returns-in-Failed-clause-wires g c = wired_then (grows_same c.in-Failed.ensures.ports) c.loop-place.invariant.wires c.in-Failed.ensures.wires

pub returns-in-Failed-clause-ports : goal.returns-in-Failed-clause-ports
returns-in-Failed-clause-ports g c = c.in-Failed.ensures.ports ∙ c.loop-place.invariant.ports

pub returns-clause-wires : goal.returns-clause-wires
returns-clause-wires g c = c.loop-place.invariant.wires

pub returns-clause-ports : goal.returns-clause-ports
returns-clause-ports g c = c.loop-place.invariant.ports

pub loop-place-preserved-then-not-may_read : goal.loop-place-preserved-then-not-may_read
loop-place-preserved-then-not-may_read g c =
    let inv = c.loop-place.invariant in
    record {
      room = inv.room;
      some = inv.some;
      wires = inv.wires;
      ports = inv.ports;
      calls = inv.calls;
      goes = inv.goes;
      dry = inv.dry;
      below = each_next {P = NotRead} c.loop-place.place c.loop-place.self.links c.at.result c.at.ensures.found (λ m. absurd (false≢true (c.if-not-may_read.ensures.1 m))) inv.below;
      reads = inv.reads;
      none = inv.none;
      offered = inv.offered;
      known = inv.known;
      failed = inv.failed;
      same = inv.same;
      cause = inv.cause;
    }

pub returns-in-Piece-clause-fault : goal.returns-in-Piece-clause-fault
returns-in-Piece-clause-fault g c = tt

pub returns-in-Piece-clause-quiet : goal.returns-in-Piece-clause-quiet
returns-in-Piece-clause-quiet g c = λ e. let no : ⊥ = cc in absurd no

pub returns-in-Piece-clause-none : goal.returns-in-Piece-clause-none
returns-in-Piece-clause-none g c = λ d. absurd (not_drained c.loop-place-test.true (c.loop-place.invariant.none d) c.at.ensures.found (c.if-not-may_read.ensures.0 refl) d)

pub returns-in-Piece-clause-offered : goal.returns-in-Piece-clause-offered
returns-in-Piece-clause-offered g c = λ o. c.in-Piece.ensures.offered (c.loop-place.invariant.offered o)

pub returns-in-Piece-clause-failed : goal.returns-in-Piece-clause-failed
returns-in-Piece-clause-failed g c = record { each = λ p. c.in-Piece.ensures.failed p ∙ c.loop-place.invariant.failed p }

pub returns-in-Piece-clause-known : goal.returns-in-Piece-clause-known
returns-in-Piece-clause-known g c = known_then c.loop-place.invariant.known c.in-Piece.ensures.known

pub returns-in-Piece-clause-left : goal.returns-in-Piece-clause-left
returns-in-Piece-clause-left g c = ap (λ (l : Loop). l.left) c.in-Piece.ensures.same ∙ ap (λ (l : Loop). l.left) c.loop-place.invariant.same

pub returns-in-Piece-clause-cause : goal.returns-in-Piece-clause-cause
returns-in-Piece-clause-cause g c = cause_as (λ e. absurd (false≢true e)) (cause_last c.loop-place.invariant.cause c.in-Piece.ensures.cause)

pub returns-in-Ended-clause-fault : goal.returns-in-Ended-clause-fault
returns-in-Ended-clause-fault g c = tt

pub returns-in-Ended-clause-quiet : goal.returns-in-Ended-clause-quiet
returns-in-Ended-clause-quiet g c = λ e. let no : ⊥ = cc in absurd no

pub returns-in-Ended-clause-none : goal.returns-in-Ended-clause-none
returns-in-Ended-clause-none g c = λ d. absurd (not_drained c.loop-place-test.true (c.loop-place.invariant.none d) c.at.ensures.found (c.if-not-may_read.ensures.0 refl) d)

pub returns-in-Ended-clause-offered : goal.returns-in-Ended-clause-offered
returns-in-Ended-clause-offered g c = λ o. c.in-Ended.ensures.offered (c.loop-place.invariant.offered o)

pub returns-in-Ended-clause-failed : goal.returns-in-Ended-clause-failed
returns-in-Ended-clause-failed g c = record { each = λ p. c.in-Ended.ensures.failed p ∙ c.loop-place.invariant.failed p }

pub returns-in-Ended-clause-known : goal.returns-in-Ended-clause-known
returns-in-Ended-clause-known g c = known_then c.loop-place.invariant.known c.in-Ended.ensures.known

pub returns-in-Ended-clause-left : goal.returns-in-Ended-clause-left
returns-in-Ended-clause-left g c = ap (λ (l : Loop). l.left) c.in-Ended.ensures.same ∙ ap (λ (l : Loop). l.left) c.loop-place.invariant.same

pub returns-in-Ended-clause-cause : goal.returns-in-Ended-clause-cause
returns-in-Ended-clause-cause g c = cause_as (λ e. absurd (false≢true e)) (cause_last c.loop-place.invariant.cause c.in-Ended.ensures.cause)

pub returns-in-Refused-clause-fault : goal.returns-in-Refused-clause-fault
returns-in-Refused-clause-fault g c = tt

pub returns-in-Refused-clause-quiet : goal.returns-in-Refused-clause-quiet
returns-in-Refused-clause-quiet g c = λ e. let no : ⊥ = cc in absurd no

pub returns-in-Refused-clause-none : goal.returns-in-Refused-clause-none
returns-in-Refused-clause-none g c = λ d. absurd (not_drained c.loop-place-test.true (c.loop-place.invariant.none d) c.at.ensures.found (c.if-not-may_read.ensures.0 refl) d)

pub returns-in-Refused-clause-offered : goal.returns-in-Refused-clause-offered
returns-in-Refused-clause-offered g c = λ o. c.in-Refused.ensures.offered (c.loop-place.invariant.offered o)

pub returns-in-Refused-clause-failed : goal.returns-in-Refused-clause-failed
returns-in-Refused-clause-failed g c = record { each = λ p. c.in-Refused.ensures.failed p ∙ c.loop-place.invariant.failed p }

pub returns-in-Refused-clause-known : goal.returns-in-Refused-clause-known
returns-in-Refused-clause-known g c = known_then c.loop-place.invariant.known c.in-Refused.ensures.known

pub returns-in-Refused-clause-left : goal.returns-in-Refused-clause-left
returns-in-Refused-clause-left g c = ap (λ (l : Loop). l.left) c.in-Refused.ensures.same ∙ ap (λ (l : Loop). l.left) c.loop-place.invariant.same

pub returns-in-Refused-clause-cause : goal.returns-in-Refused-clause-cause
returns-in-Refused-clause-cause g c = cause_as (λ e. absurd (false≢true e)) (cause_last c.loop-place.invariant.cause c.in-Refused.ensures.cause)

pub returns-in-Failed-clause-fault : goal.returns-in-Failed-clause-fault
returns-in-Failed-clause-fault g c = tt

pub returns-in-Failed-clause-quiet : goal.returns-in-Failed-clause-quiet
returns-in-Failed-clause-quiet g c = λ e. let no : ⊥ = cc in absurd no

pub returns-in-Failed-clause-none : goal.returns-in-Failed-clause-none
returns-in-Failed-clause-none g c = λ d. absurd (not_drained c.loop-place-test.true (c.loop-place.invariant.none d) c.at.ensures.found (c.if-not-may_read.ensures.0 refl) d)

pub returns-in-Failed-clause-offered : goal.returns-in-Failed-clause-offered
returns-in-Failed-clause-offered g c = λ o. c.in-Failed.ensures.offered (c.loop-place.invariant.offered o)

pub returns-in-Failed-clause-failed : goal.returns-in-Failed-clause-failed
returns-in-Failed-clause-failed g c = record { each = λ p. c.in-Failed.ensures.failed p ∙ ap (λ (b : Bool). is_at p c.conn_at-conn.result || b) (c.loop-place.invariant.failed p) }

pub returns-in-Failed-clause-known : goal.returns-in-Failed-clause-known
returns-in-Failed-clause-known g c = known_then c.loop-place.invariant.known c.in-Failed.ensures.known

pub returns-in-Failed-clause-left : goal.returns-in-Failed-clause-left
returns-in-Failed-clause-left g c = ap (λ (l : Loop). l.left) c.in-Failed.ensures.same ∙ ap (λ (l : Loop). l.left) c.loop-place.invariant.same

pub returns-in-Failed-clause-cause : goal.returns-in-Failed-clause-cause
returns-in-Failed-clause-cause g c = cause_as (λ e. refl) (cause_last c.loop-place.invariant.cause c.in-Failed.ensures.cause)

pub returns-in-Failed-clause-sound : goal.returns-in-Failed-clause-sound
returns-in-Failed-clause-sound g c = tt

pub returns-clause-goes : goal.returns-clause-goes
returns-clause-goes g c = c.loop-place.invariant.goes

pub returns-clause-came : goal.returns-clause-came
returns-clause-came g c = c.loop-place.invariant.dry

pub returns-clause-fault : goal.returns-clause-fault
returns-clause-fault g c = tt

pub returns-clause-quiet : goal.returns-clause-quiet
returns-clause-quiet g c = λ e. record { each = λ p link low found. c.loop-place.invariant.below p link (omega arith) found }

pub returns-clause-none : goal.returns-clause-none
returns-clause-none g c = λ d. refl

pub returns-clause-offered : goal.returns-clause-offered
returns-clause-offered g c = c.loop-place.invariant.offered

pub returns-clause-failed : goal.returns-clause-failed
returns-clause-failed g c = record { each = c.loop-place.invariant.failed }

pub returns-clause-known : goal.returns-clause-known
returns-clause-known g c = c.loop-place.invariant.known

pub returns-clause-left : goal.returns-clause-left
returns-clause-left g c = ap (λ (l : Loop). l.left) c.loop-place.invariant.same

pub returns-clause-calls : goal.returns-clause-calls
returns-clause-calls g c = c.loop-place.invariant.calls

pub returns-clause-cause : goal.returns-clause-cause
returns-clause-cause g c = cause_as false≢true c.loop-place.invariant.cause

pub read_at-requires-clause-place : goal.read_at-requires-clause-place
read_at-requires-clause-place g c = c.conn_at-conn.ensures.place

pub read_at-requires-clause-job : goal.read_at-requires-clause-job
read_at-requires-clause-job g c = c.conn_at-conn.ensures.job

pub read_at-requires-clause-buf : goal.read_at-requires-clause-buf
read_at-requires-clause-buf g c = c.loop-place.invariant.some

pub read_at-requires-clause-may : goal.read_at-requires-clause-may
read_at-requires-clause-may g c = and_here MayRead c.loop-place.self.links c.loop-place.place c.at.result c.at.ensures.found (c.if-not-may_read.ensures.0 refl)

pub returns-in-Piece-clause-anew : goal.returns-in-Piece-clause-anew
returns-in-Piece-clause-anew g c = λ conn e. let no : ⊥ = cc in absurd no

pub returns-in-Ended-clause-anew : goal.returns-in-Ended-clause-anew
returns-in-Ended-clause-anew g c = λ conn e. let no : ⊥ = cc in absurd no

pub returns-in-Refused-clause-anew : goal.returns-in-Refused-clause-anew
returns-in-Refused-clause-anew g c = λ conn e. let no : ⊥ = cc in absurd no

pub returns-in-Failed-clause-anew : goal.returns-in-Failed-clause-anew
returns-in-Failed-clause-anew g c = λ conn e.
    let same : c.conn_at-conn.result ≡ conn = cc in
    subst (λ (x : Conn). IsWell c.args.self.now x) same (well_before c.loop-place.invariant.known c.loop-place.invariant.failed c.in-Failed.ensures.well)

pub returns-clause-anew : goal.returns-clause-anew
returns-clause-anew g c = λ conn e. let no : ⊥ = cc in absurd no
