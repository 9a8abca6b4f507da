use Rattle.std.proofs.Common.{◌∙◌, ◌++◌, ap, sym}
use Rattle.report_run.proofs.WordLemmas.{written_rest}
use Rattle.report_run.proofs.words_read.is_written.Goals as goal

pub returns-in-Some : goal.returns-in-Some
returns-in-Some c =
    let found = c.in-Some.ensures.cases in
    c.eq-in-Some.ensures ∙ written_rest c.args.input.now c.args.output.now c.in-Some.rest.now (sym c.eq.ensures ∙ c.if-eq.false)
    (found.1.1 ∙ ap (λ r. c.args.output.now ++ r) (sym found.2))
