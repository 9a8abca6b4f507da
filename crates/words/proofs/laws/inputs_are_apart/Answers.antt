use Rattle.words.proofs.JobPaths.{job_apart}
use Rattle.words.proofs.laws.inputs_are_apart.Goals as goal

pub returns : goal.returns
returns c = λ words a taken is. job_apart words a taken is
