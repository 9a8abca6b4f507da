use Rattle.std.proofs.Common.{sym, subst, ap}
use Rattle.world.proofs.MomentsLemmas.{told_as}
use Rattle.job_end.specs.declared.answer.Answer.{Answer}
use Rattle.job_journal.specs.Ended.{cause_of}
use Rattle.job_journal.specs.Plot.{facts}
use Rattle.job_run.proofs.EndLemmas.{uncaused_answer}
use Rattle.job_run.proofs.JobLemmas.{job_quiet_untold, job_saved}
use Rattle.job_run.proofs.OutcomeLemmas.{answer_same, some_none, starved_lost, starved_spent}
use Rattle.job_run.specs.Run.{IsLost, IsSpent}
use Rattle.job_run.proofs.RunLemmas.{ends_with, ends_starved}
use Rattle.job_run.specs.Task.{task_of_job, output_of_job}
use Rattle.job_run.proofs.StopLemmas.{starved_ends}
use Rattle.job_run.proofs.job.Job.finish.Goals as goal

pub returns-in-Some-clause-course : goal.returns-in-Some-clause-course
returns-in-Some-clause-course g c o r = ends_with o c.args.self c.in-Some.answer _ _ c.in-Some.is (c.end_child.ensures.course o r)

pub returns-in-Some-clause-calls : goal.returns-in-Some-clause-calls
returns-in-Some-clause-calls g c cast since from r = (c.end_child.ensures.calls cast since from r).part.so

pub returns-clause-course : goal.returns-clause-course
returns-clause-course g c o r = ends_starved o c.args.self c.starved.result _ _ c.in-None.is c.starved.ensures (c.end_child.ensures.course o r)

pub returns-clause-calls : goal.returns-clause-calls
returns-clause-calls g c cast since from r = (c.end_child.ensures.calls cast since from r).part.so

pub returns-in-Some-clause-end : goal.returns-in-Some-clause-end
returns-in-Some-clause-end g c = c.args.self.end c.in-Some.answer c.in-Some.is

pub returns-clause-end : goal.returns-clause-end
returns-clause-end g c = starved_ends (output_of_job c.args.self) (task_of_job c.args.self) c.starved.result c.starved.ensures

pub returns-in-Some-clause-lost : goal.returns-in-Some-clause-lost
returns-in-Some-clause-lost g c h = subst IsLost (sym c.in-Some.is) h

pub returns-clause-lost : goal.returns-clause-lost
returns-clause-lost g c h = absurd (starved_lost c.starved.result (ap (λ a. a.status) c.starved.ensures) h)

pub returns-in-Some-clause-spent : goal.returns-in-Some-clause-spent
returns-in-Some-clause-spent g c h = subst IsSpent (sym c.in-Some.is) h

pub returns-clause-spent : goal.returns-clause-spent
returns-clause-spent g c h = absurd (starved_spent c.starved.result (ap (λ a. a.status) c.starved.ensures) h)

pub returns-in-Some-clause-stands : goal.returns-in-Some-clause-stands
returns-in-Some-clause-stands g c p =
    told_as (c.end_child.ensures.quiet (facts p)) (λ x y w s. (job_quiet_untold p c.args.self x y w s).ended c.in-Some.answer c.in-Some.is)

pub returns-clause-stands : goal.returns-clause-stands
returns-clause-stands g c p =
    told_as (c.end_child.ensures.quiet (facts p))
    (λ x y w s. uncaused_answer p c.starved.result y (ap (λ (a : Answer). cause_of a.status) c.starved.ensures) (job_saved p c.args.self y (job_quiet_untold p c.args.self x y w s)))

pub returns-in-Some-clause-over : goal.returns-in-Some-clause-over
returns-in-Some-clause-over g c answer is = answer_same c.args.self.outcome c.in-Some.answer answer c.in-Some.is is

pub returns-clause-over : goal.returns-clause-over
returns-clause-over g c answer is = absurd (some_none c.args.self.outcome answer is c.in-None.is)

pub returns-in-Some-clause-starved : goal.returns-in-Some-clause-starved
returns-in-Some-clause-starved g c is = absurd (some_none c.args.self.outcome c.in-Some.answer c.in-Some.is is)

pub returns-clause-starved : goal.returns-clause-starved
returns-clause-starved g c is = ap (λ a. a.status) c.starved.ensures

pub returns-in-Some-clause-quiet : goal.returns-in-Some-clause-quiet
returns-in-Some-clause-quiet g c facts = c.end_child.ensures.quiet facts

pub returns-clause-quiet : goal.returns-clause-quiet
returns-clause-quiet g c facts = c.end_child.ensures.quiet facts
