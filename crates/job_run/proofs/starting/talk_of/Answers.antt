use Rattle.std.proofs.Common.{ap}
use Rattle.job_run.proofs.starting.talk_of.Goals as goal

pub returns-clause-key : goal.returns-clause-key
returns-clause-key c = ap (λ s. s.key) c.in_ok-session.ensures

pub returns-clause-name : goal.returns-clause-name
returns-clause-name c = ap (λ s. s.name) c.in_ok-session.ensures
