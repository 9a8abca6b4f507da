use Rattle.std.proofs.Common.{refl, subst, sym}
use Rattle.world.specs.Counts.{Rose}
use Rattle.graph_run.specs.Answers.{Answers, plain, not_said}
use Rattle.graph_run.proofs.command.unless_not_said.Goals.{else-code-eq0-via-then-code-eq0+else-has_risen, else-code-eq0-via-else-code-eq0}
use Rattle.graph_run.proofs.command.unless_not_said.Goals as goal

pub returns-then-has_risen-clause-answers : goal.returns-then-has_risen-clause-answers
returns-then-has_risen-clause-answers g c =
    subst (λ code. Answers (Rose c.args.faults (g.W.Journal.counts c.args.w.now).say) code 11) (sym c.if-code-eq0.true) (not_said (c.if-has_risen.ensures.risen refl))

pub returns-clause-answers : goal.returns-clause-answers
returns-clause-answers g c = plain (λ zero_ failed.
    elim c.else-code-eq0.branch [
      | else-code-eq0-via-then-code-eq0+else-has_risen w ↦ w.if-has_risen.ensures.still refl failed
      | else-code-eq0-via-else-code-eq0 w ↦ w.if-code-eq0.false zero_
    ])
