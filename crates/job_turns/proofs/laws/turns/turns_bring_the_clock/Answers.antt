use Rattle.job_turns.proofs.TurnLemmas.{turn_ended, turn_owed}
use Rattle.job_turns.proofs.laws.turns.turns_bring_the_clock.Goals as goal

pub returns : goal.returns
returns c = record { stands = turn_owed; ended = turn_ended }
