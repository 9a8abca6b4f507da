use Rattle.std.proofs.Common.{sym, subst}
use Rattle.job_end.specs.Answers.{Answers, starved}
use Rattle.cell_core.specs.StandsFor.{task_of}
use Rattle.job_run.proofs.outcome.farewell.Goals as goal

pub returns-clause-fails : goal.returns-clause-fails
returns-clause-fails c f = c.answer_for-answer.ensures.fails (task_of c.args.run.now.core) c.requires.own f

pub returns-then-is_err-clause-answers : goal.returns-then-is_err-clause-answers
returns-then-is_err-clause-answers c = subst (λ a. Answers c.args.output.now c.args.end.now a) (sym c.memory_answer.ensures.is) starved
