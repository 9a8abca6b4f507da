use Rattle.std.proofs.Common.{refl, rules, ap}
use Rattle.job_run.specs.declared.execution.Execution.{Execution}
use Rattle.job_run.proofs.JobLemmas.{keeps_standing}
use Rattle.job_run.proofs.job.Job.on_ended.Goals as goal

pub returns-in-Still : goal.returns-in-Still
returns-in-Still c =
    let e = c.on_ended.ensures in
    record {
      course = search rules;
      calls = search rules;
      keeps = search rules;
      outcome = refl;
      stands = keeps_standing c.args.self.now _ refl refl refl (ap (λ (x : Execution). x.clock) e.rest) (λ p number clock journal s. (e.stands p number clock journal s).stands);
    }
