use Rattle.std.proofs.Common.{◌≡◌, drop}
use Rattle.toy_lang.specs.Variables.{value_of}
use Rattle.toy_lang.proofs.state.State.value.Given as goal

abbrev pub invariant-loop-variable : goal.invariant-loop-variable
invariant-loop-variable l = value_of l.name (drop l.variable-index l.variable-items) ≡ value_of l.name l.self
