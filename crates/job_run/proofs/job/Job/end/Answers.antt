use Rattle.std.proofs.Common.{Err, refl, sym, ap, subst}
use Rattle.job_end.specs.declared.end.End.TheVariants as end
use Rattle.job_saves.specs.Course.{Stands, keeps_open}
use Rattle.cell_core.specs.StandsFor.{task_of}
use Rattle.job_run.proofs.TurnLemmas.{end_counts, outside_job}
use Rattle.job_run.proofs.OutcomeLemmas.{err_same}
use Rattle.job_run.proofs.JobLemmas.{keeps_ended}
use Rattle.job_run.proofs.RunLemmas.{ends_told, turns, plays_on}
use Rattle.job_run.specs.declared.terms.Terms.{Terms}
use Rattle.job_run.proofs.job.Job.end.Goals as goal

pub returns-clause-course : goal.returns-clause-course
returns-clause-course c o journal counts r =
    let e = c.outcome_of.ensures in
    let book = c.args.self.now.run.book in
    turns o c.args.self.now _ book journal journal counts counts (keeps_open c.args.end) c.requires.running
    (λ s. subst (λ b. Stands o book b journal counts) (sym c.requires.saved) s) e.course refl e.shut e.fails
    (λ fresh s h. end_counts o c.args.self.now.run c.outcome_of.new.run c.args.end c.outcome_of.result journal c.requires.outside e.counts h) r

pub returns-clause-calls : goal.returns-clause-calls
returns-clause-calls c cast since from journal counts r =
    plays_on cast since from c.args.self.now _ c.args.self.now.run.book journal journal counts counts (λ s. s) c.outcome_of.ensures.calls refl refl r

pub returns-clause-lost : goal.returns-clause-lost
returns-clause-lost c h = err_same (Err c.args.end) c.args.end end.NetFault refl (c.outcome_of.ensures.lost h)

pub returns-clause-spent : goal.returns-clause-spent
returns-clause-spent c h = err_same (Err c.args.end) c.args.end end.Spent refl (c.outcome_of.ensures.spent h)

pub outcome_of-requires-clause-own : goal.outcome_of-requires-clause-own
outcome_of-requires-clause-own c = outside_job (task_of c.args.self.now.run.core) c.args.end c.requires.outside

pub returns-clause-pings : goal.returns-clause-pings
returns-clause-pings c = ap (λ (t : Terms). t.heartbeat) c.outcome_of.ensures.terms

pub returns-clause-ends : goal.returns-clause-ends
returns-clause-ends c = ends_told c.args.self.now.outcome c.outcome_of.result c.unless_starved.result c.requires.running c.unless_starved.ensures.starved c.unless_starved.ensures.fed

pub returns-clause-stands : goal.returns-clause-stands
returns-clause-stands c =
    let j = c.args.self.now in
    let e = c.outcome_of in
    keeps_ended j _ c.args.end refl refl e.ensures.ends c.requires.outside e.ensures.answers
