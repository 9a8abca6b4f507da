use Rattle.std.proofs.Common.{sym, subst, ◌∙◌}
use Rattle.world.proofs.MomentsLemmas.{told_as}
use Rattle.job_saves.specs.Course.{Stands, stays_open}
use Rattle.job_saves.proofs.CourseLemmas.{save_stands, save_called, durable_answer, acknowledged_answer, left_alone}
use Rattle.job_saves.proofs.LeftLemmas.{left_answer}
use Rattle.job_saves.proofs.SavingLemmas.{on_done, on_tried, entries_answer, silent_answer}
use Rattle.job_saves.proofs.SessionLemmas.{saves_made}
use Rattle.job_saves.proofs.saving.save_next.Goals as goal

pub returns-clause-course : goal.returns-clause-course
returns-clause-course g c o s =
    let e = c.save.ensures in
    subst (λ r. Stands o c.save.new.self (stays_open r) (g.W.Journal.journal c.save.new.w) (g.W.Journal.counts c.save.new.w)) (sym c.end_of.ensures.answer)
    (save_stands o c.args.book.now c.save.new.self c.args.settled c.args.stop _ _ c.save.result _ _ _ _
    c.requires.above e.prefix e.read e.settled e.after (λ closed. e.closed.1 closed) e.entries e.cause e.merge e.output s)

pub returns-clause-calls : goal.returns-clause-calls
returns-clause-calls g c cast since from s =
    let e = c.save.ensures in
    save_called cast since from c.args.book.now c.save.new.self c.args.settled c.args.stop c.save.result _ _ _ _
    c.requires.above c.requires.within e.prefix e.read e.settled e.after (λ closed. e.closed.1 closed) e.merge e.cells e.output e.entries e.silent e.cause s

pub returns-clause-saves : goal.returns-clause-saves
returns-clause-saves g c = told_as c.save.ensures.entries (λ x y did. saves_made _ _ _ _ c.save.result x y did)

pub returns-clause-prefix : goal.returns-clause-prefix
returns-clause-prefix g c = on_tried c.save.result c.end_of.result _ c.end_of.ensures.answer c.save.ensures.prefix

pub returns-clause-durable : goal.returns-clause-durable
returns-clause-durable g c = durable_answer c.save.result c.end_of.result _ _ _ _ c.end_of.ensures.answer c.save.ensures.end

pub returns-clause-acked : goal.returns-clause-acked
returns-clause-acked g c = acknowledged_answer c.save.result c.end_of.result _ _ _ _ c.end_of.ensures.answer c.save.ensures.end

pub returns-clause-idle : goal.returns-clause-idle
returns-clause-idle g c e = left_alone c.save.result _ c.save.ensures.idle (sym c.end_of.ensures.answer ∙ e)

pub returns-clause-left : goal.returns-clause-left
returns-clause-left g c =
    let e = c.save.ensures in
    left_answer c.args.book.now c.save.new.self c.args.settled c.args.stop c.save.result c.end_of.result (g.W.Journal.journal c.args.w.now) (g.W.Journal.journal c.save.new.w) (g.W.Journal.counts c.args.w.now)
    c.end_of.ensures.answer (λ closed. e.closed.1 closed) e.prefix e.end

pub returns-clause-entries : goal.returns-clause-entries
returns-clause-entries g c = told_as c.save.ensures.entries (λ x y did. entries_answer _ _ _ _ c.save.result c.end_of.result x y c.end_of.ensures.answer did)

pub returns-clause-silent : goal.returns-clause-silent
returns-clause-silent g c failed = told_as (c.save.ensures.silent failed) (λ x y did. silent_answer _ _ c.save.result c.end_of.result x y c.end_of.ensures.answer did)

pub returns-clause-keeps : goal.returns-clause-keeps
returns-clause-keeps g c = on_done c.save.result c.end_of.result _ c.end_of.ensures.answer c.save.ensures.keeps
