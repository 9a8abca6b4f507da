use Rattle.std.proofs.Common.{◌∙◌, refl, arith}
use Rattle.batch_run.proofs.OweLemmas.{taken_all, taken_more, taken_none}
use Rattle.batch_run.proofs.SlotLemmas.{over_start, over_then}
use Rattle.batch_run.proofs.running.Running.tell_taken.Goals as goal

pub loop-number-init : goal.loop-number-init
loop-number-init c = record {
  stands = λ asks start from journal counts s. s;
  over = over_start c.args.self.now.jobs.slots.items;
  taken = taken_none c.args.self.now.lines.connections c.args.self.now.jobs.slots.items;
  lines = refl;
  buf = refl;
  size = refl;
}

pub loop-number-preserved : goal.loop-number-preserved
loop-number-preserved c = record {
  stands = λ asks start from journal counts s. c.tell_taken_of.ensures.stands asks start from journal counts (c.loop-number.invariant.stands asks start from journal counts s);
  over = over_then c.loop-number.invariant.over c.tell_taken_of.ensures.over;
  taken = taken_more {n = c.loop-number.number} c.tell_taken_of.ensures.lines c.tell_taken_of.ensures.others c.tell_taken_of.ensures.taken c.loop-number.invariant.taken;
  lines = c.tell_taken_of.ensures.lines ∙ c.loop-number.invariant.lines;
  buf = c.tell_taken_of.ensures.buf ∙ c.loop-number.invariant.buf;
  size = c.tell_taken_of.ensures.size ∙ c.loop-number.invariant.size;
}

pub returns-clause-stands : goal.returns-clause-stands
returns-clause-stands c = c.loop-number.invariant.stands

pub returns-clause-over : goal.returns-clause-over
returns-clause-over c = c.loop-number.invariant.over

pub returns-clause-taken : goal.returns-clause-taken
returns-clause-taken c = taken_all {n = c.loop-number.number} (omega (arith, c.loop-number.invariant.size, c.len-number-end.ensures.is)) c.loop-number.invariant.taken
