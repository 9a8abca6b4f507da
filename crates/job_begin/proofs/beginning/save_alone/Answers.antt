use Rattle.job_saves.proofs.CourseLemmas.{job_begins, job_ends}
use Rattle.job_begin.proofs.BeginLemmas.{for_book}
use Rattle.job_run.proofs.BeginLemmas.{part_first}
use Rattle.job_begin.proofs.beginning.save_alone.Goals as goal

pub returns-clause-course : goal.returns-clause-course
returns-clause-course g c o for s =
    let b = c.in_ok-book.book in
    let e = c.in_ok-book.ensures in
    let on = job_begins b c.args.notebook o _ _ e.keeps (for_book c.args.ask.now b c.args.notebook o e.output e.merge for) s in
    job_ends o c.save_next-end.new.book _ _ _ (c.save_next-end.ensures.course o on)

pub returns-clause-calls : goal.returns-clause-calls
returns-clause-calls g c cast number since from has reads so =
    let e = c.in_ok-book.ensures in
    let part = part_first c.in_ok-book.book c.args.ask.now c.args.notebook cast number since from _ _ e.output e.merge e.cells e.keeps has reads so in
    (c.save_next-end.ensures.calls cast since from part).so
