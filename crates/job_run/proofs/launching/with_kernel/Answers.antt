use Rattle.std.proofs.Common.{true, ◌≡◌, sym, subst, ◌∙◌}
use Rattle.job_saves.specs.Course.{Ends, keeps_open, stays_open}
use Rattle.job_saves.specs.Children.{HasEnd}
use Rattle.job_run.specs.Run.{HasPorts}
use Rattle.job_run.specs.Task.{ports_of_job}
use Rattle.job_run.proofs.RunLemmas.{unstarted}
use Rattle.world.proofs.CountsLemmas.{grow_start}
use Rattle.job_run.proofs.CauseLemmas.{cause_within}
use Rattle.job_run.proofs.launching.with_kernel.Goals as goal
use Rattle.world.proofs.MomentsLemmas.{since_then, told_as, told_then}
use Rattle.std.proofs.Common.{ap}
use Rattle.job_journal.specs.Plot.{facts}
use Rattle.job_run.specs.declared.execution.Execution.{Execution}
use Rattle.job_run.proofs.EndLemmas.{unstarted_so}
use Rattle.job_run.proofs.JobLemmas.{job_quiet, job_saved, job_untold}

pub returns-in-Ok-clause-course : goal.returns-in-Ok-clause-course
returns-in-Ok-clause-course g c o r = c.launch.ensures.course o r

pub returns-in-Ok-clause-calls : goal.returns-in-Ok-clause-calls
returns-in-Ok-clause-calls g c cast since from may portless r = c.launch.ensures.calls cast since from may portless r

pub returns-in-Err-clause-course : goal.returns-in-Err-clause-course
returns-in-Err-clause-course g c o r =
    let kept : keeps_open c.in-Err.end ≡ true = subst (λ q. stays_open q ≡ true) c.in-Err.is c.launch.ensures.ends.saved in
    subst (λ b. Ends o b (g.W.Journal.journal c.end_child.new.w) (g.W.Journal.counts c.end_child.new.w)) (sym kept)
    (unstarted o c.launch.new.self _ _ (c.launch.ensures.outcome ∙ c.requires) (c.end_child.ensures.course o (c.launch.ensures.course o r)))

pub returns-in-Err-clause-calls : goal.returns-in-Err-clause-calls
returns-in-Err-clause-calls g c cast since from may portless r = (c.end_child.ensures.calls cast since from (c.launch.ensures.calls cast since from may portless r)).part.so

pub returns-in-Err-clause-left : goal.returns-in-Err-clause-left
returns-in-Err-clause-left g c = subst (λ n. HasEnd n (g.W.Journal.journal c.end_child.new.w)) c.launch.ensures.number c.end_child.ensures.left

pub returns-in-Err-clause-cause : goal.returns-in-Err-clause-cause
returns-in-Err-clause-cause g c =
    cause_within (g.W.Journal.counts c.args.w.now) (g.W.Journal.counts c.args.w.now) (g.W.Journal.counts c.launch.new.w) (g.W.Journal.counts c.end_child.new.w) c.in-Err.end (grow_start (g.W.Journal.counts c.args.w.now)) c.end_child.ensures.grow c.in-Err.ensures.ends.cause

pub returns-in-Ok-clause-fresh : goal.returns-in-Ok-clause-fresh
returns-in-Ok-clause-fresh g c = c.launch.ensures.outcome ∙ c.requires

pub returns-in-Ok-clause-ports : goal.returns-in-Ok-clause-ports
returns-in-Ok-clause-ports g c =
    subst (λ n. HasPorts n (ports_of_job c.launch.new.self) (g.W.Journal.journal c.launch.new.w)) c.launch.ensures.number c.in-Ok.ensures.ports

pub returns-in-Ok-clause-stands : goal.returns-in-Ok-clause-stands
returns-in-Ok-clause-stands g c p = told_as (c.launch.ensures.quiet (facts p)) (λ x y w s. job_quiet p c.launch.new.self x y w (c.launch.ensures.keeps.stands p x s))

pub returns-in-Err-clause-stands : goal.returns-in-Err-clause-stands
returns-in-Err-clause-stands g c p =
    let j = c.launch.new.self in
    told_then (c.launch.ensures.quiet (facts p)) (c.end_child.ensures.quiet (facts p))
    (λ x y z w v s.
    unstarted_so p c.in-Err.end z c.in-Err.ensures.ends.own (job_saved p j z (job_untold p j z (job_quiet p j y z v (job_quiet p j x y w (c.launch.ensures.keeps.stands p x s))))))

pub returns-in-Ok-clause-quiet : goal.returns-in-Ok-clause-quiet
returns-in-Ok-clause-quiet g c facts = c.launch.ensures.quiet facts

pub returns-in-Err-clause-quiet : goal.returns-in-Err-clause-quiet
returns-in-Err-clause-quiet g c facts = told_then (c.launch.ensures.quiet facts) (c.end_child.ensures.quiet facts) (λ x y z w v. since_then w v)

pub returns-in-Ok-clause-speaks : goal.returns-in-Ok-clause-speaks
returns-in-Ok-clause-speaks g c = record { name = ap (λ (x : Execution). x.session.name) c.launch.ensures.run; key = ap (λ (x : Execution). x.session.key) c.launch.ensures.run }

pub returns-in-Ok-clause-asks : goal.returns-in-Ok-clause-asks
returns-in-Ok-clause-asks g c = c.in-Ok.ensures.asks
