use Rattle.std.proofs.Common.{refl, rules}
use Rattle.job_run.proofs.JobLemmas.{keeps_served}
use Rattle.job_run.proofs.QueueLemmas.{nothing_queued}
use Rattle.job_run.proofs.job.Job.hand_out.Goals as goal

pub returns-clause-stays : goal.returns-clause-stays
returns-clause-stays c =
    let e = c.take.ensures in
    record {
      course = search (rules);
      calls = search (rules);
      keeps = search (rules);
      outcome = refl;
      stands = keeps_served c.args.self.now _ c.args.chan c.take.new.self refl refl refl refl
          (record { others = e.others; role = e.role; stands = λ h out s. (_, e.stands h out s) });
    }

pub returns-clause-queue : goal.returns-clause-queue
returns-clause-queue c =
    let e = c.take.ensures in
    record {
      hands = e.handed;
      stands = e.stands;
      empties = λ h out s. nothing_queued e.role s (e.stands h out s);
      role = e.role;
      taken = e.taken;
      others = e.others;
    }
