use Rattle.job_saves.specs.Course.{IsFor, Begins, Stands}
use Rattle.job_saves.proofs.CourseLemmas.{job_begins, job_ends}
use Rattle.job_begin.proofs.BeginLemmas.{for_book}
use Rattle.job_begin.proofs.CountLemmas.{both_acked, both_left, whole_of}
use Rattle.std.proofs.Common.{length, true, ◌∙◌}
use Rattle.job_notebook.specs.State.{notebook_of}
use Rattle.job_run.proofs.BeginLemmas.{part_first}
use Rattle.job_begin.proofs.beginning.save_twice.Goals as goal

pub returns-in-Ok-clause-course : goal.returns-in-Ok-clause-course
returns-in-Ok-clause-course g c o for s =
    let b = c.in_ok-book.book in
    let e = c.in_ok-book.ensures in
    let on = job_begins b c.args.notebook o _ _ e.keeps (for_book c.args.ask.now b c.args.notebook o e.output e.merge for) s in
    job_ends o c.save_done-end.new.book _ _ _ (c.save_done-end.ensures.course o (c.in-Ok.ensures.course o on))

pub returns-in-Ok-clause-calls : goal.returns-in-Ok-clause-calls
returns-in-Ok-clause-calls g c cast number since from has reads so =
    let e = c.in_ok-book.ensures in
    let part = part_first c.in_ok-book.book c.args.ask.now c.args.notebook cast number since from _ _ e.output e.merge e.cells e.keeps has reads so in
    (c.save_done-end.ensures.calls cast since from (c.save_next.ensures.calls cast since from part)).so

pub returns-in-Err-clause-course : goal.returns-in-Err-clause-course
returns-in-Err-clause-course g c o for s =
    let b = c.in_ok-book.book in
    let e = c.in_ok-book.ensures in
    let on = job_begins b c.args.notebook o _ _ e.keeps (for_book c.args.ask.now b c.args.notebook o e.output e.merge for) s in
    job_ends o c.save_next.new.book _ _ _ (c.in-Err.ensures.course o on)

pub returns-in-Err-clause-calls : goal.returns-in-Err-clause-calls
returns-in-Err-clause-calls g c cast number since from has reads so =
    let e = c.in_ok-book.ensures in
    let part = part_first c.in_ok-book.book c.args.ask.now c.args.notebook cast number since from _ _ e.output e.merge e.cells e.keeps has reads so in
    (c.save_next.ensures.calls cast since from part).so

pub returns-in-Ok-clause-acked : goal.returns-in-Ok-clause-acked
returns-in-Ok-clause-acked g c =
    let b = c.in_ok-book.book in
    let m = c.save_next.new.book in
    both_acked c.args.ask.now.output b m _ (g.W.Journal.journal c.args.w.now) (g.W.Journal.journal c.save_next.new.w) (g.W.Journal.journal c.save_done-end.new.w) _ _ (length c.args.notebook.cells)
    (length (notebook_of m).cells) c.save_done-end.result c.in_ok-book.ensures.output (c.save_next.ensures.cells ∙ c.in_ok-book.ensures.cells) c.in-Ok.ensures.course c.in-Ok.ensures.acked c.save_done-end.ensures.acked

pub returns-in-Ok-clause-whole : goal.returns-in-Ok-clause-whole
returns-in-Ok-clause-whole g c =
    let a = c.args.ask.now in
    let n = c.args.notebook in
    let b = c.in_ok-book.book in
    let e = c.in_ok-book.ensures in
    let m = c.save_next.new.book in
    let j = g.W.Journal.journal c.args.w.now in
    let r = g.W.Journal.counts c.args.w.now in
    let mid = g.W.Journal.journal c.save_next.new.w in
    let k = g.W.Journal.journal c.save_done-end.new.w in
    whole_of c.save_done-end.result k (length n.cells) (IsFor a.output a.merge n) (λ o. Begins o j r) (λ o. Stands o b true j r)
    (λ o for s. job_begins b n o j r e.keeps (for_book a b n o e.output e.merge for) s)
    (both_left c.save_done-end.result mid k (λ o. Stands o b true j r) (λ o. Stands o m true mid (g.W.Journal.counts c.save_next.new.w)) (length n.cells) (length (notebook_of m).cells)
    (c.save_next.ensures.cells ∙ e.cells) c.in-Ok.ensures.left c.in-Ok.ensures.course c.save_done-end.ensures.left)
