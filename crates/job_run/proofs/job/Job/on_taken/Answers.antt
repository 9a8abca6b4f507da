use Rattle.std.proofs.Common.{refl}
use Rattle.job_run.proofs.JobLemmas.{keeps_served}
use Rattle.job_run.proofs.job.Job.on_taken.Goals as goal

pub returns-clause-notes : goal.returns-clause-notes
returns-clause-notes c = let e = c.on_taken.ensures in record { taken = e.taken; stands = e.stands; role = e.role; others = e.others }

pub returns-clause-stands : goal.returns-clause-stands
returns-clause-stands c =
    let e = c.on_taken.ensures in
    keeps_served c.args.self.now _ c.args.chan c.on_taken.new.self refl refl refl refl (record { others = e.others; role = e.role; stands = λ h out s. (out, e.stands h out s) })
