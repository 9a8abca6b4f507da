use Rattle.std.proofs.Common.{arith, refl, sym, subst, ap, ◌∙◌}
use Rattle.world.proofs.CountsLemmas.{rose_since}
use Rattle.ready_loop.specs.States.{IsDrained, IsOffered, IsSound}
use Rattle.batch_run.specs.declared.lines.Lines.{Lines}
use Rattle.batch_run.specs.Lines.{open_of, waits_of}
use Rattle.batch_run.specs.Owed.{none}
use Rattle.batch_run.specs.Stands.{owing, served_by}
use Rattle.batch_run.proofs.CauseLemmas.{same_lines}
use Rattle.batch_run.proofs.OweLemmas.{exits, forgets_lines}
use Rattle.batch_run.proofs.SlotLemmas.{none_one, none_same}
use Rattle.batch_run.proofs.running.Running.put_out.Goals as goal

pub loop-self-init : goal.loop-self-init
loop-self-init g c = record {
  left = refl;
  linked = omega arith;
  stands = λ asks start from s. s;
  over = λ n. n;
  drained = λ d. d;
  sound = c.requires.sound;
  buf = refl;
}

pub offer-requires : goal.offer-requires
offer-requires g c = record { sound = c.queue_all.ensures.left.sound c.loop-self.invariant.sound }

pub returns-in_err-queue_all-clause-stands : goal.returns-in_err-queue_all-clause-stands
returns-in_err-queue_all-clause-stands g c = λ asks start from s.
    exits _ asks start from none c.queue_all.new.self.lines.connections c.from_residual.result c.from_residual.ensures.1
    (forgets_lines asks start from none c.queue_all.new.self.lines.connections
    (c.queue_all.ensures.stands asks start from (g.W.Journal.journal c.loop-self.w) (g.W.Journal.counts c.loop-self.w) (c.loop-self.invariant.stands asks start from s)))

pub returns-in_err-queue_all-clause-left : goal.returns-in_err-queue_all-clause-left
returns-in_err-queue_all-clause-left g c = c.queue_all.ensures.left.waits ∙ c.loop-self.invariant.left

pub returns-in_err-queue_all-clause-linked : goal.returns-in_err-queue_all-clause-linked
returns-in_err-queue_all-clause-linked g c = omega (arith, c.queue_all.ensures.left.linked, c.loop-self.invariant.linked)

pub returns-in_err-queue_all-clause-drained : goal.returns-in_err-queue_all-clause-drained
returns-in_err-queue_all-clause-drained g c = λ d. c.queue_all.ensures.left.drained (c.loop-self.invariant.drained d)

pub returns-in-Ok-clause-stands : goal.returns-in-Ok-clause-stands
returns-in-Ok-clause-stands g c = λ asks start from s.
    same_lines asks start from none c.offer.new.self c.tell_taken.new.self.lines c.tell_taken.ensures.lines
    (c.tell_taken.ensures.stands asks start (served_by none c.offer.new.self.connections from) (g.W.Journal.journal c.offer.new.w) (g.W.Journal.counts c.offer.new.w)
    (c.on_ends.ensures.stands asks start (served_by none c.offer.new.self.connections from) (g.W.Journal.journal c.offer.new.w) (g.W.Journal.counts c.offer.new.w)
    (c.offer.ensures.stands asks start (owing none from) c.queue_all.new.self.jobs.slots.items refl
    (c.queue_all.ensures.stands asks start from (g.W.Journal.journal c.loop-self.w) (g.W.Journal.counts c.loop-self.w) (c.loop-self.invariant.stands asks start from s)))))

pub returns-in-Ok-clause-taken : goal.returns-in-Ok-clause-taken
returns-in-Ok-clause-taken g c = c.tell_taken.ensures.taken

pub returns-in-Ok-clause-over : goal.returns-in-Ok-clause-over
returns-in-Ok-clause-over g c = λ n. none_same c.tell_taken.ensures.over (none_same c.on_ends.ensures.over (none_same c.queue_all.ensures.over (c.loop-self.invariant.over n)))

pub returns-in-Ok-clause-left : goal.returns-in-Ok-clause-left
returns-in-Ok-clause-left g c = ap waits_of c.tell_taken.ensures.lines ∙ c.offer.ensures.left ∙ c.queue_all.ensures.left.waits ∙ c.loop-self.invariant.left

pub returns-in-Ok-clause-linked : goal.returns-in-Ok-clause-linked
returns-in-Ok-clause-linked g c = omega (arith, ap open_of c.tell_taken.ensures.lines, c.offer.ensures.linked, c.queue_all.ensures.left.linked, c.loop-self.invariant.linked)

pub returns-in-Ok-clause-offered : goal.returns-in-Ok-clause-offered
returns-in-Ok-clause-offered g c = subst (λ (l : Lines). IsOffered l.connections) (sym c.tell_taken.ensures.lines) c.in-Ok.ensures.offered

pub returns-in-Ok-clause-sound : goal.returns-in-Ok-clause-sound
returns-in-Ok-clause-sound g c = subst (λ (l : Lines). IsSound l.connections) (sym c.tell_taken.ensures.lines) c.in-Ok.ensures.sound

pub returns-in-Ok-clause-drained : goal.returns-in-Ok-clause-drained
returns-in-Ok-clause-drained g c = λ d. subst (λ (l : Lines). IsDrained l.connections) (sym c.tell_taken.ensures.lines) (c.offer.ensures.drained (c.queue_all.ensures.left.drained (c.loop-self.invariant.drained d)))

pub lose_one-requires : goal.lose_one-requires
lose_one-requires g c = c.in-Err.ensures.broken.few

pub returns-in_err-lose_one-in-Err-clause-stands : goal.returns-in_err-lose_one-in-Err-clause-stands
returns-in_err-lose_one-in-Err-clause-stands g c = λ asks start from s.
    exits _ asks start from none c.lose_one.new.self.lines.connections c.from_residual-in_err-lose_one-in-Err.result c.from_residual-in_err-lose_one-in-Err.ensures.1
    (let b = c.loop-self.invariant.stands asks start from s in
    let q = c.queue_all.ensures.stands asks start from (g.W.Journal.journal c.loop-self.w) (g.W.Journal.counts c.loop-self.w) b in
    c.in_err-lose_one-in-Err.ensures.stands none refl refl asks start from
    (rose_since from.counts.net (g.W.Journal.counts c.loop-self.w).net (g.W.Journal.counts c.offer.new.w).net b.grow.net c.in-Err.ensures.cause)
    (c.offer.ensures.stands asks start (owing none from) c.queue_all.new.self.jobs.slots.items refl q))

pub returns-in_err-lose_one-in-Err-clause-left : goal.returns-in_err-lose_one-in-Err-clause-left
returns-in_err-lose_one-in-Err-clause-left g c = c.lose_one.ensures.left.waits ∙ c.offer.ensures.left ∙ c.queue_all.ensures.left.waits ∙ c.loop-self.invariant.left

pub returns-in_err-lose_one-in-Err-clause-linked : goal.returns-in_err-lose_one-in-Err-clause-linked
returns-in_err-lose_one-in-Err-clause-linked g c = omega (arith, c.lose_one.ensures.left.linked, c.offer.ensures.linked, c.queue_all.ensures.left.linked, c.loop-self.invariant.linked)

pub returns-in_err-lose_one-in-Err-clause-drained : goal.returns-in_err-lose_one-in-Err-clause-drained
returns-in_err-lose_one-in-Err-clause-drained g c = λ d. c.lose_one.ensures.left.drained (c.offer.ensures.drained (c.queue_all.ensures.left.drained (c.loop-self.invariant.drained d)))

pub loop-self-preserved : goal.loop-self-preserved
loop-self-preserved g c = record {
  left = c.lose_one.ensures.left.waits ∙ c.offer.ensures.left ∙ c.queue_all.ensures.left.waits ∙ c.loop-self.invariant.left;
  linked = omega (arith, c.lose_one.ensures.left.linked, c.offer.ensures.linked, c.queue_all.ensures.left.linked, c.loop-self.invariant.linked);
  stands = λ asks start from s.
      let b = c.loop-self.invariant.stands asks start from s in
      let q = c.queue_all.ensures.stands asks start from (g.W.Journal.journal c.loop-self.w) (g.W.Journal.counts c.loop-self.w) b in
      c.in_ok-lose_one-in-Err.ensures.stands none refl refl asks start from
      (rose_since from.counts.net (g.W.Journal.counts c.loop-self.w).net (g.W.Journal.counts c.offer.new.w).net b.grow.net c.in-Err.ensures.cause)
      (c.offer.ensures.stands asks start (owing none from) c.queue_all.new.self.jobs.slots.items refl q);
  over = λ n. none_one c.lose_one.ensures.others c.in_ok-lose_one-in-Err.ensures.over (none_same c.queue_all.ensures.over (c.loop-self.invariant.over n));
  drained = λ d. c.lose_one.ensures.left.drained (c.offer.ensures.drained (c.queue_all.ensures.left.drained (c.loop-self.invariant.drained d)));
  sound = c.in_ok-lose_one-in-Err.ensures.sound c.in-Err.ensures.broken.but;
  buf = c.lose_one.ensures.buf ∙ c.queue_all.ensures.buf ∙ c.loop-self.invariant.buf;
}

pub loop-self-smaller : goal.loop-self-smaller
loop-self-smaller g c =
    let less = c.in_ok-lose_one-in-Err.ensures.linked c.in-Err.ensures.broken in
    omega (arith, less, c.offer.ensures.linked, c.queue_all.ensures.left.linked)
