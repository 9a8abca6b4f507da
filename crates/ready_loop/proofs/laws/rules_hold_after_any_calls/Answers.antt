use Rattle.ready_loop.proofs.RunLemmas.{runs_hold}
use Rattle.ready_loop.proofs.laws.rules_hold_after_any_calls.Goals as goal

pub returns : goal.returns
returns c = λ first l asked h start journal stand run. runs_hold first asked start stand l h journal run
