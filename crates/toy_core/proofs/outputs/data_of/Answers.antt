use Rattle.toy_core.proofs.outputs.data_of.Goals as goal

pub returns : goal.returns
returns c = rw c.in_ok-plain.ensures at c.only.ensures
