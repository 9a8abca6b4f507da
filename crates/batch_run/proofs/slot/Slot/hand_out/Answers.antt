use Rattle.std.proofs.Common.{Some, ap, sym, ◌∙◌}
use Rattle.std.specs.Prelude.{is_some}
use Rattle.batch_run.specs.Due.{is_slot_over}
use Rattle.batch_run.specs.Stands.{is_slot_running}
use Rattle.batch_run.proofs.TellingLemmas.{job_stays}
use Rattle.batch_run.proofs.StandLemmas.{slot_rests}
use Rattle.batch_run.proofs.slot.Slot.hand_out.Goals as goal

pub returns-in-Running-clause-stays : goal.returns-in-Running-clause-stays
returns-in-Running-clause-stays c = λ asks start from slots k journal counts opens found s.
    job_stays asks start from slots journal counts k c.in-Running.job c.hand_out.new.self c.hand_out.ensures.stays opens (found ∙ ap Some c.in-Running.is) s

pub returns-in-Waiting-clause-stays : goal.returns-in-Waiting-clause-stays
returns-in-Waiting-clause-stays c = λ asks start from slots k journal counts opens found s. slot_rests asks start from slots k c.args.self.now journal counts found s

pub returns-in-Running-clause-runs : goal.returns-in-Running-clause-runs
returns-in-Running-clause-runs c = sym (ap (λ slot. is_slot_running (Some slot)) c.in-Running.is)

pub returns-in-Running-clause-over : goal.returns-in-Running-clause-over
returns-in-Running-clause-over c = ap (λ o. is_some o) c.hand_out.ensures.stays.outcome ∙ sym (ap (λ slot. is_slot_over (Some slot)) c.in-Running.is)
