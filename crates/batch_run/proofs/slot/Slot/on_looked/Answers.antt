use Rattle.std.proofs.Common.{Some, ap, ◌∙◌}
use Rattle.batch_run.specs.Owed.{none}
use Rattle.batch_run.specs.Stands.{owing}
use Rattle.batch_run.proofs.StandLemmas.{slot_rests}
use Rattle.batch_run.proofs.TellingLemmas.{job_looked}
use Rattle.batch_run.proofs.slot.Slot.on_looked.Goals as goal

pub returns-in-Running : goal.returns-in-Running
returns-in-Running g c = λ asks start from slots k found s.
    job_looked asks start from slots (g.W.Journal.journal c.args.w.now) (g.W.Journal.journal c.on_looked.new.w) (g.W.Journal.counts c.args.w.now) (g.W.Journal.counts c.on_looked.new.w)
    k c.in-Running.job c.on_looked.new.self c.on_looked.ensures.goes.course c.on_looked.ensures.goes.calls c.on_looked.ensures.goes.keeps c.on_looked.ensures.goes.clock (found ∙ ap Some c.in-Running.is) c.on_looked.ensures.stands s

pub returns-in-Waiting : goal.returns-in-Waiting
returns-in-Waiting g c = λ asks start from slots k found s.
    slot_rests asks start (owing none from) slots k c.args.self.now (g.W.Journal.journal c.args.w.now) (g.W.Journal.counts c.args.w.now) found s

pub returns-in-Waiting-2 : goal.returns-in-Waiting-2
returns-in-Waiting-2 g c = λ asks start from slots k found s.
    slot_rests asks start (owing none from) slots k c.args.self.now (g.W.Journal.journal c.args.w.now) (g.W.Journal.counts c.args.w.now) found s
