use Rattle.std.proofs.Common.{Some, refl, sym, ap, subst, ◌≡◌, ◌∙◌}
use Rattle.job_run.specs.declared.request.Request.{Request}
use Rattle.job_run.specs.Used.{SameRequest, noted_with, some}
use Rattle.job_run.proofs.ListenLemmas.{same_request}
use Rattle.job_run.proofs.execution.Execution.note_error.Goals as goal

pub returns-in-Error-clause-request : goal.returns-in-Error-clause-request
returns-in-Error-clause-request c =
    let noted : Request = record c.in-Some.request { error = Some c.in-Error.ename } in
    subst (λ o. SameRequest o (Some noted)) (sym c.in-Some.is) (some {r = c.in-Some.request} {s = noted} refl refl refl)

pub returns-in_default-reply-clause-request : goal.returns-in_default-reply-clause-request
returns-in_default-reply-clause-request c = subst (λ o. SameRequest o (Some c.in-Some.request)) (sym c.in-Some.is) (same_request (Some c.in-Some.request))

pub returns-in_default-clause-request : goal.returns-in_default-clause-request
returns-in_default-clause-request c = same_request c.args.self.now.request

pub returns-in-Error-clause-notes : goal.returns-in-Error-clause-notes
returns-in-Error-clause-notes c = λ r s is at.
    let noted : Request = record c.in-Some.request { error = Some c.in-Error.ename } in
    let both : Some noted ≡ Some s = at in
    let same : s ≡ noted = cc in
    ap (λ (v : Request). v.error) same ∙ sym (ap (λ rep. noted_with rep r.error) c.in-Error.is)

pub returns-in_default-reply-clause-notes : goal.returns-in_default-reply-clause-notes
returns-in_default-reply-clause-notes c = λ r s is at.
    let both : Some c.in-Some.request ≡ Some s = at in
    let old : Some c.in-Some.request ≡ Some r = sym c.in-Some.is ∙ is in
    let same : s ≡ r = cc in
    ap (λ (v : Request). v.error) same ∙ sym (ap (λ rep. noted_with rep r.error) c.in_default-reply.is)

pub returns-in_default-clause-notes : goal.returns-in_default-clause-notes
returns-in_default-clause-notes c = λ r s is at. absurd (c.in_default.not-Some r is)
