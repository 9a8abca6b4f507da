use Rattle.std.proofs.Common.{◌≡◌, ◌+◌, ◌<◌, ◌^◌, Some, refl, sym, subst, ap, arith}
use Rattle.job_notebook.specs.State.{Keeps, KeepsParts}
use Rattle.job_saves.specs.Course.{HasPart}
use Rattle.job_saves.proofs.CourseLemmas.{keeps_part}
use Rattle.job_run.specs.declared.execution.Execution.{Execution}
use Rattle.job_run.proofs.execution.Execution.send.Goals as goal

pub returns-clause-calls : goal.returns-clause-calls
returns-clause-calls c cast since from j counts s =
    keeps_part c.request_of.new.self.book c.start.new.self cast since from j counts c.start.ensures.same c.start.ensures.read
    (subst (λ b. HasPart cast since from b j counts) (sym c.request_of.ensures.book) s)

pub overflow_add-self : goal.overflow_add-self
overflow_add-self c =
    let same : c.request_of.new.self.sent ≡ c.args.self.now.sent = ap (λ (e : Execution). e.sent) c.request_of.ensures.said in
    let fits : c.args.cell < 2 ^ 32 = c.ranges.cell.fits in
    omega (arith, same, fits, c.requires.holds.sent, c.requires.above)

pub returns-clause-sends : goal.returns-clause-sends
returns-clause-sends c = λ d at.
    let x = c.args.self.now in
    let mid = c.request_of.new.self in
    let q = c.in_ok-request.ensures.queues d at in
    let said = c.request_of.ensures.said in
    record {
      queued = record { line = q.line; role = q.role; taken = q.taken; others = q.others; made = q.made };
      request = c.in_ok-request.request;
      stands = refl;
      is = c.in_ok-request.ensures.request d at;
      sent = ap (λ n. n + 1) (ap (λ (e : Execution). e.sent) said);
      begun = λ first us k. c.start.ensures.keeps first us (subst (λ b. Keeps b first us) (sym c.request_of.ensures.book) k);
      parts = subst (λ b. KeepsParts b c.start.new.self) c.request_of.ensures.book c.start.ensures.same;
      rest = ap (λ (e : Execution). record e { book = c.start.new.self; request = Some c.in_ok-request.request; sent = mid.sent + 1 }) said;
    }
