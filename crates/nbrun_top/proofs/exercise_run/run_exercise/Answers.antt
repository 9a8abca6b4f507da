use Rattle.std.proofs.Common.{◌<◌, subst, sym, ap, arith}
use Rattle.world.specs.Counts.{Counts, Rose}
use Rattle.world.proofs.MomentsLemmas.{told_as}
use Rattle.nbrun_top.specs.Ended.{Answers}
use Rattle.nbrun_top.specs.Exercised.{Exercised, ended, starved}
use Rattle.nbrun_top.specs.ExerciseLine.{IsOutcome}
use Rattle.said_lines.specs.Speech.{Says}
use Rattle.nbrun_top.proofs.exercise_run.run_exercise.Goals as goal

pub returns-in-Ok-clause-exercised : goal.returns-in-Ok-clause-exercised
returns-in-Ok-clause-exercised g c =
    let new = (g.W.Journal.counts c.say.new.w).say in
    let answers = subst (λ k. Answers (Rose k new) c.in-Ok.answer.status c.unless_not_said.result) c.say_faults-faults.ensures.is c.unless_not_said.ensures.answers in
    told_as c.say.ensures.tells (λ x y says.
    ended c.in-Ok.answer c.unless_not_said.result y c.in-Ok.ensures answers
    (subst (λ t. Says t (0 < new) x y) c.bytes.ensures says))

pub returns-in-Err-clause-exercised : goal.returns-in-Err-clause-exercised
returns-in-Err-clause-exercised g c = told_as c.say_no_memory.ensures.says (λ x y says.
    subst (λ n. Exercised (IsOutcome c.args.cells) (Rose (g.W.Journal.counts c.args.w.now).say (g.W.Journal.counts c.say_no_memory.new.w).say)
    (0 < (g.W.Journal.counts c.say_no_memory.new.w).say) x n y) (sym c.say_no_memory.ensures.status) (starved y says))

pub returns-in-Ok-clause-waits : goal.returns-in-Ok-clause-waits
returns-in-Ok-clause-waits g c = omega (arith, ap (λ k. Counts.waits k) c.say.ensures.counts.others)

pub returns-in-Err-clause-waits : goal.returns-in-Err-clause-waits
returns-in-Err-clause-waits g c = omega (arith, ap (λ k. Counts.waits k) c.say_no_memory.ensures.counts.others)
