use Rattle.std.proofs.Common.{rules, ◌≡◌, Some, false, inl, ap, sym, ◌∙◌}
use Rattle.std.specs.Prelude.{is_some}
use Rattle.batch_run.specs.Due.{is_slot_over}
use Rattle.batch_run.specs.Stands.{is_slot_running}
use Rattle.batch_run.proofs.SlotLemmas.{notes_none, notes_one}
use Rattle.batch_run.proofs.TellingLemmas.{job_changes}
use Rattle.batch_run.proofs.StandLemmas.{slot_rests}
use Rattle.batch_run.proofs.slot.Slot.on_taken.Goals as goal

pub returns-in-Running-clause-stays : goal.returns-in-Running-clause-stays
returns-in-Running-clause-stays c = λ asks start from slots k journal counts opens found s.
    job_changes asks start from slots journal counts k c.in-Running.job c.on_taken.new.self c.on_taken.ensures.course c.on_taken.ensures.calls c.on_taken.ensures.stands
    c.on_taken.ensures.keeps.task c.on_taken.ensures.keeps.output (λ l. inl (c.on_taken.ensures.keeps.still.lost l)) (λ l. inl (c.on_taken.ensures.keeps.still.spent l)) opens (found ∙ ap Some c.in-Running.is) s

pub returns-clause-stays : goal.returns-clause-stays
returns-clause-stays c = λ asks start from slots k journal counts opens found s. slot_rests asks start from slots k c.args.self.now journal counts found s

pub returns-2-clause-stays : goal.returns-2-clause-stays
returns-2-clause-stays c = λ asks start from slots k journal counts opens found s. slot_rests asks start from slots k c.args.self.now journal counts found s

pub returns-in-Running-clause-over : goal.returns-in-Running-clause-over
returns-in-Running-clause-over c = ap (λ o. is_some o) c.on_taken.ensures.outcome ∙ sym (ap (λ slot. is_slot_over (Some slot)) c.in-Running.is)

pub returns-in-Running-clause-taken : goal.returns-in-Running-clause-taken
returns-in-Running-clause-taken c = notes_one c.args.chan c.args.taken c.args.self.now c.in-Running.job c.on_taken.new.self c.in-Running.is c.on_taken.ensures.notes

pub returns-clause-taken : goal.returns-clause-taken
returns-clause-taken c =
    let idle : is_slot_running (Some c.args.self.now) ≡ false = search rules in
    notes_none c.args.chan c.args.taken idle

pub returns-2-clause-taken : goal.returns-2-clause-taken
returns-2-clause-taken c =
    let idle : is_slot_running (Some c.args.self.now) ≡ false = search (rules, c.in-Ended-1.keys3) in
    notes_none c.args.chan c.args.taken idle
