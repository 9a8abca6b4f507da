use Rattle.std.proofs.Common.{◌≡◌}
use Rattle.job_end.specs.declared.end.End.TheVariants as end
use Rattle.job_run.proofs.job.Job.spend.Goals as goal

pub returns-clause-still : goal.returns-clause-still
returns-clause-still c h = let no : end.Spent ≡ end.NetFault = c.end.ensures.lost h in absurd (cc)
