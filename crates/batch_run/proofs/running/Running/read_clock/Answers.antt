use Rattle.std.proofs.Common.{refl, arith}
use Rattle.batch_run.specs.Owed.{first_clock}
use Rattle.batch_run.proofs.OweLemmas.{all_begun, first_done, next_owed}
use Rattle.batch_run.proofs.SlotLemmas.{over_start, over_then}
use Rattle.batch_run.proofs.running.Running.read_clock.Goals as goal

pub loop-number-init : goal.loop-number-init
loop-number-init c = record {
  stands = λ asks start from journal counts at s. s;
  over = over_start c.args.self.now.jobs.slots.items;
  lines = refl;
  buf = refl;
}

pub loop-number-preserved : goal.loop-number-preserved
loop-number-preserved c = record {
  stands = λ asks start from journal counts at s.
      next_owed first_clock asks start from c.loop-number.number (c.read_clock.ensures.stands asks start from journal counts at (c.loop-number.invariant.stands asks start from journal counts at s));
  over = over_then c.loop-number.invariant.over c.read_clock.ensures.over;
  lines = c.loop-number.invariant.lines;
  buf = c.loop-number.invariant.buf;
}

pub returns-clause-stands : goal.returns-clause-stands
returns-clause-stands c = λ asks start from n journal counts few at s.
    let first = all_begun asks start from n few s in
    let last = c.loop-number.invariant.stands asks start from journal counts at first in
    first_done asks start from c.loop-number.number (omega (arith, first.size, last.size, c.len-number-end.ensures.is)) last

pub returns-clause-over : goal.returns-clause-over
returns-clause-over c = c.loop-number.invariant.over
