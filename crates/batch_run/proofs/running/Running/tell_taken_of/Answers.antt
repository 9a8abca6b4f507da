use Rattle.std.proofs.Common.{◌∙◌, refl}
use Rattle.batch_run.proofs.SlotLemmas.{over_start, over_then}
use Rattle.batch_run.proofs.running.Running.tell_taken_of.Goals as goal

pub loop-chan-init : goal.loop-chan-init
loop-chan-init c = record {
  stands = λ asks start from journal counts s. s;
  over = over_start c.args.self.now.jobs.slots.items;
  others = λ k ne. refl;
  lines = refl;
  buf = refl;
  size = refl;
}

pub loop-chan-preserved : goal.loop-chan-preserved
loop-chan-preserved c = record {
  stands = λ asks start from journal counts s. c.tell_taken_on.ensures.stands asks start from journal counts (c.loop-chan.invariant.stands asks start from journal counts s);
  over = over_then c.loop-chan.invariant.over c.tell_taken_on.ensures.over;
  others = λ k ne. c.tell_taken_on.ensures.others k ne ∙ c.loop-chan.invariant.others k ne;
  lines = c.tell_taken_on.ensures.lines ∙ c.loop-chan.invariant.lines;
  buf = c.tell_taken_on.ensures.buf ∙ c.loop-chan.invariant.buf;
  size = c.tell_taken_on.ensures.size ∙ c.loop-chan.invariant.size;
}

pub returns-clause-stands : goal.returns-clause-stands
returns-clause-stands c = λ asks start from journal counts s. c.tell_taken_on-2.ensures.stands asks start from journal counts (c.loop-chan.invariant.stands asks start from journal counts s)

pub returns-clause-over : goal.returns-clause-over
returns-clause-over c = over_then c.loop-chan.invariant.over c.tell_taken_on-2.ensures.over

pub returns-clause-others : goal.returns-clause-others
returns-clause-others c = λ k ne. c.tell_taken_on-2.ensures.others k ne ∙ c.loop-chan.invariant.others k ne

pub returns-clause-taken : goal.returns-clause-taken
returns-clause-taken c = c.tell_taken_on-2.ensures.taken
