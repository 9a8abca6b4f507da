use Rattle.std.proofs.Common.{sym, ap, ◌∙◌, subst}
use Rattle.job_end.specs.Statuses.{status_of}
use Rattle.job_end.specs.Reasons.{line_of}
use Rattle.job_end.specs.Answers.{Answers, said, starved}
use Rattle.job_end.proofs.end.End.answer.Goals as goal

pub returns-in-Ok : goal.returns-in-Ok
returns-in-Ok c =
    let e = c.args.self.now in
    let o = c.args.output.now in
    let spoken : Answers o e (record { status = status_of e; line = c.in-Ok.line }) = subst (λ l. Answers o e (record { status = status_of e; line = l })) (sym (c.in-Ok.ensures ∙ ap (λ x. line_of x e) c.as_str.ensures)) said in
    subst (λ s. Answers o e (record { status = s; line = c.in-Ok.line })) (sym c.status.ensures) spoken

pub returns-in-Err : goal.returns-in-Err
returns-in-Err c = subst (λ a. Answers c.args.output.now c.args.self.now a) (sym c.starved.ensures) starved
