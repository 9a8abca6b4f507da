use Rattle.std.proofs.Common.{◌≡◌}
use Rattle.job_end.specs.declared.end.End.TheVariants as end
use Rattle.job_run.proofs.job.Job.lose_network.Goals as goal

pub returns-clause-still : goal.returns-clause-still
returns-clause-still c h = let no : end.NetFault ≡ end.Spent = c.end.ensures.spent h in absurd (cc)
