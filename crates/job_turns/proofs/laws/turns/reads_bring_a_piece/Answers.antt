use Rattle.job_turns.proofs.TurnLemmas.{read_apart, read_ended, read_owed}
use Rattle.job_turns.proofs.laws.turns.reads_bring_a_piece.Goals as goal

pub returns : goal.returns
returns c = record { own = read_owed; others = read_apart; ended = read_ended }
