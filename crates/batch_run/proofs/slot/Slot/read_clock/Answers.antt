use Rattle.std.proofs.Common.{rules, ◌≡◌, Some, false, ap, sym, ◌∙◌}
use Rattle.std.specs.Prelude.{is_some}
use Rattle.batch_run.specs.Due.{is_slot_over}
use Rattle.batch_run.specs.Stands.{is_slot_running}
use Rattle.batch_run.proofs.TellingLemmas.{job_reads, slot_reads}
use Rattle.batch_run.proofs.slot.Slot.read_clock.Goals as goal

pub returns-in-Running-clause-reads : goal.returns-in-Running-clause-reads
returns-in-Running-clause-reads c = λ asks start from slots k journal counts at found s.
    job_reads asks start from slots journal counts k c.in-Running.job c.read_clock.new.self c.args.ms c.read_clock.ensures.course c.read_clock.ensures.calls c.read_clock.ensures.keeps c.read_clock.ensures.stands
    at (found ∙ ap Some c.in-Running.is) s

pub returns-clause-reads : goal.returns-clause-reads
returns-clause-reads c = λ asks start from slots k journal counts at found s.
    let idle : is_slot_running (Some c.args.self.now) ≡ false = grind (rules, c.in-Waiting-1.keys2) in
    slot_reads asks start from slots journal counts k c.args.self.now idle found s

pub returns-2-clause-reads : goal.returns-2-clause-reads
returns-2-clause-reads c = λ asks start from slots k journal counts at found s.
    let idle : is_slot_running (Some c.args.self.now) ≡ false = search rules in
    slot_reads asks start from slots journal counts k c.args.self.now idle found s

pub returns-in-Running-clause-over : goal.returns-in-Running-clause-over
returns-in-Running-clause-over c = ap (λ o. is_some o) c.read_clock.ensures.outcome ∙ sym (ap (λ slot. is_slot_over (Some slot)) c.in-Running.is)
