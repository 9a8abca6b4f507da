use Rattle.job_run.proofs.CauseLemmas.{cause_stays}
use Rattle.job_begin.proofs.laws.causes_stay.Goals as goal

pub returns : goal.returns
returns c old mid new e grow h = cause_stays old mid new e grow h
