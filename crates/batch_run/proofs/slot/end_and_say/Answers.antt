use Rattle.std.proofs.Common.{Some, ap, set, sym, ◌∙◌}
use Rattle.std.proofs.lemmas.Bool.{false≢true}
use Rattle.std.proofs.lemmas.Option.{slice_get_within}
use Rattle.jtext.proofs.Lists.{slice_get-set_same}
use Rattle.batch_run.specs.Stands.{is_slot_running}
use Rattle.batch_run.specs.declared.slot.Slot.TheVariants.{Ended}
use Rattle.batch_run.proofs.JobStandLemmas.{end_said, job_ends}
use Rattle.batch_run.proofs.StandLemmas.{slot_rests, waiting_ends}
use Rattle.batch_run.proofs.slot.end_and_say.Goals as goal

pub returns-in-Running-clause-keeps : goal.returns-in-Running-clause-keeps
returns-in-Running-clause-keeps g c = λ asks start from slots k wait closed found s.
    let own = end_said asks start from slots (g.W.Journal.journal c.args.w.now) (g.W.Journal.counts c.args.w.now) k c.in-Running.job c.finish-answer.result c.finish-answer.ensures.end (found ∙ ap Some c.in-Running.is) s in
    let at = slice_get-set_same slots k (Ended c.finish-answer.result) (slice_get_within slots k c.args.slot found) in
    c.say_end.ensures.keeps asks start from (set slots k (Ended c.finish-answer.result)) k own.0 wait own.1 at own.2
    (job_ends asks start from slots (g.W.Journal.journal c.args.w.now) (g.W.Journal.journal c.finish-answer.new.w) (g.W.Journal.counts c.args.w.now) (g.W.Journal.counts c.finish-answer.new.w)
    k c.in-Running.job c.finish-answer.result c.finish-answer.ensures.course c.finish-answer.ensures.calls c.finish-answer.ensures.left c.finish-answer.ensures.end c.finish-answer.ensures.lost c.finish-answer.ensures.spent (record { over = c.finish-answer.ensures.over; starved = c.finish-answer.ensures.starved }) c.finish-answer.ensures.quiet wait closed (found ∙ ap Some c.in-Running.is) s)

pub returns-in-Ended-clause-keeps : goal.returns-in-Ended-clause-keeps
returns-in-Ended-clause-keeps g c = λ asks start from slots k wait closed found s.
    slot_rests asks start from slots k (Ended c.in-Ended.answer) (g.W.Journal.journal c.args.w.now) (g.W.Journal.counts c.args.w.now) (found ∙ ap Some c.in-Ended.is) s

pub returns-in-Waiting-clause-keeps : goal.returns-in-Waiting-clause-keeps
returns-in-Waiting-clause-keeps g c = λ asks start from slots k wait closed found s.
    waiting_ends asks start from slots (g.W.Journal.journal c.args.w.now) (g.W.Journal.counts c.args.w.now) k c.starved.result c.starved.ensures closed (found ∙ ap Some c.in-Waiting.is) s

pub returns-in-Running-clause-said : goal.returns-in-Running-clause-said
returns-in-Running-clause-said g c = λ ran. c.say_end.ensures.said

pub returns-in-Ended-clause-said : goal.returns-in-Ended-clause-said
returns-in-Ended-clause-said g c = λ ran. absurd (false≢true (sym (ap (λ slot. is_slot_running (Some slot)) c.in-Ended.is) ∙ ran))

pub returns-in-Waiting-clause-said : goal.returns-in-Waiting-clause-said
returns-in-Waiting-clause-said g c = λ ran. absurd (false≢true (sym (ap (λ slot. is_slot_running (Some slot)) c.in-Waiting.is) ∙ ran))
