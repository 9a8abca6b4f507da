use Rattle.toy_core.proofs.outputs.status.Goals as goal

pub returns : goal.returns
returns c = rw c.in_ok-state.ensures at c.only.ensures
