use Rattle.other_jobs.proofs.Ended.{ended_calls, ended_clock, ended_turns}
use Rattle.other_jobs.proofs.laws.ended.ended_jobs_stay_ended.Goals as goal

pub returns : goal.returns
returns g = record {
  clock = ended_clock;
  turns = ended_turns;
  calls = λ p a c before now plain elsewhere since rested h. ended_calls p a c plain elsewhere since rested h;
}
