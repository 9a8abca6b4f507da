use Rattle.std.proofs.Common.{Some, inl, inr, ap, ◌∙◌}
use Rattle.batch_run.proofs.TellingLemmas.{job_changes}
use Rattle.batch_run.proofs.StandLemmas.{slot_rests}
use Rattle.batch_run.proofs.slot.Slot.lose.Goals as goal

pub returns-in-Running : goal.returns-in-Running
returns-in-Running c = λ asks start from slots k journal counts why opens found s.
    job_changes asks start from slots journal counts k c.in-Running.job c.lose_network.new.self c.lose_network.ensures.course c.lose_network.ensures.calls c.lose_network.ensures.stands c.lose_network.ensures.task c.lose_network.ensures.output
    (λ l. inr why) (λ l. inl (c.lose_network.ensures.still l)) opens (found ∙ ap Some c.in-Running.is) s

pub returns-in-Waiting : goal.returns-in-Waiting
returns-in-Waiting c = λ asks start from slots k journal counts why opens found s. slot_rests asks start from slots k c.args.self.now journal counts found s

pub returns-in-Waiting-2 : goal.returns-in-Waiting-2
returns-in-Waiting-2 c = λ asks start from slots k journal counts why opens found s. slot_rests asks start from slots k c.args.self.now journal counts found s
