use Rattle.std.proofs.Common.{Some, inl, inr, ap, ◌∙◌}
use Rattle.batch_run.proofs.TellingLemmas.{job_changes}
use Rattle.batch_run.proofs.StandLemmas.{slot_rests}
use Rattle.batch_run.proofs.slot.Slot.spend.Goals as goal

pub returns-in-Running : goal.returns-in-Running
returns-in-Running c = λ asks start from slots k journal counts why opens found s.
    job_changes asks start from slots journal counts k c.in-Running.job c.spend.new.self c.spend.ensures.course c.spend.ensures.calls c.spend.ensures.stands c.spend.ensures.task c.spend.ensures.output
    (λ l. inl (c.spend.ensures.still l)) (λ l. inr why) opens (found ∙ ap Some c.in-Running.is) s

pub returns-in-Waiting : goal.returns-in-Waiting
returns-in-Waiting c = λ asks start from slots k journal counts why opens found s. slot_rests asks start from slots k c.args.self.now journal counts found s

pub returns-in-Waiting-2 : goal.returns-in-Waiting-2
returns-in-Waiting-2 c = λ asks start from slots k journal counts why opens found s. slot_rests asks start from slots k c.args.self.now journal counts found s
