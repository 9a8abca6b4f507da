use Rattle.std.proofs.Common.{Some, ap, set, ◌∙◌}
use Rattle.batch_run.specs.declared.slot.Slot.TheVariants.{Ended}
use Rattle.batch_run.specs.Owed.{may_wait}
use Rattle.batch_run.proofs.JobStandLemmas.{job_ends}
use Rattle.batch_run.proofs.SaidLemmas.{speaks_unknown}
use Rattle.batch_run.proofs.StandLemmas.{slot_rests, waiting_ends}
use Rattle.batch_run.proofs.slot.end_of.Goals as goal

pub returns-in-Running : goal.returns-in-Running
returns-in-Running g c = λ asks start from slots k unknown_is closed found s.
    speaks_unknown asks start from (set slots k (Ended c.finish.result)) (g.W.Journal.journal c.finish.new.w) (g.W.Journal.counts c.finish.new.w) k unknown_is
    (job_ends asks start from slots (g.W.Journal.journal c.args.w.now) (g.W.Journal.journal c.finish.new.w) (g.W.Journal.counts c.args.w.now) (g.W.Journal.counts c.finish.new.w)
    k c.in-Running.job c.finish.result c.finish.ensures.course c.finish.ensures.calls c.finish.ensures.left c.finish.ensures.end c.finish.ensures.lost c.finish.ensures.spent (record { over = c.finish.ensures.over; starved = c.finish.ensures.starved }) c.finish.ensures.quiet (ap may_wait unknown_is) closed (found ∙ ap Some c.in-Running.is) s)

pub returns-in-Ended : goal.returns-in-Ended
returns-in-Ended g c = λ asks start from slots k wait closed found s.
    slot_rests asks start from slots k (Ended c.in-Ended.answer) (g.W.Journal.journal c.args.w.now) (g.W.Journal.counts c.args.w.now) (found ∙ ap Some c.in-Ended.is) s

pub returns-in-Waiting : goal.returns-in-Waiting
returns-in-Waiting g c = λ asks start from slots k wait closed found s.
    waiting_ends asks start from slots (g.W.Journal.journal c.args.w.now) (g.W.Journal.counts c.args.w.now) k c.starved.result c.starved.ensures closed (found ∙ ap Some c.in-Waiting.is) s
