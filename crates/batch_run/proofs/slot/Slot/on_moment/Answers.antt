use Rattle.std.proofs.Common.{Some, ap, ◌∙◌}
use Rattle.batch_run.proofs.SlotLemmas.{idle_of}
use Rattle.batch_run.proofs.TellingLemmas.{job_turned, slot_turned}
use Rattle.batch_run.proofs.slot.Slot.on_moment.Goals as goal

pub returns-in-Running : goal.returns-in-Running
returns-in-Running g c = λ asks start from slots k found s.
    job_turned asks start from slots (g.W.Journal.journal c.args.w.now) (g.W.Journal.journal c.on_moment.new.w) (g.W.Journal.counts c.args.w.now) (g.W.Journal.counts c.on_moment.new.w)
    k c.in-Running.job c.on_moment.new.self c.on_moment.ensures.goes.course c.on_moment.ensures.goes.calls c.on_moment.ensures.goes.keeps c.on_moment.ensures.goes.clock (found ∙ ap Some c.in-Running.is) c.args.ms c.on_moment.ensures.stands s

pub returns-in-Waiting : goal.returns-in-Waiting
returns-in-Waiting g c = λ asks start from slots k found s.
    slot_turned asks start from slots (g.W.Journal.journal c.args.w.now) (g.W.Journal.counts c.args.w.now) k c.args.self.now (idle_of c.args.self.now c.in-Waiting.is) found c.args.ms s

pub returns-in-Waiting-2 : goal.returns-in-Waiting-2
returns-in-Waiting-2 g c = λ asks start from slots k found s.
    slot_turned asks start from slots (g.W.Journal.journal c.args.w.now) (g.W.Journal.counts c.args.w.now) k c.args.self.now (idle_of c.args.self.now c.in-Waiting.is) found c.args.ms s
