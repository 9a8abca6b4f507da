use Rattle.other_jobs.proofs.Clocks.{calls_stand, puts_stay}
use Rattle.other_jobs.proofs.laws.clock.other_jobs_start.Goals as goal

pub returns : goal.returns
returns g = record {
  stands = λ p number x c before now elsewhere since rested none unasked h. calls_stand p number x c elsewhere since rested none unasked h;
  put = λ j on c before now since. puts_stay j on c since;
}
