use Rattle.std.proofs.Common.{◌≡◌, Some, None, OnOk, subst, ◌∙◌}
use Rattle.toy_lang.proofs.VariableSteps.{set_variable_at, set_variable_last, placed}
use Rattle.toy_lang.proofs.state.set_variable.Goals as goal

pub returns-in-Some : goal.returns-in-Some
returns-in-Some c =
    let at = placed c.args.variables.now c.as_slice.result.now c.args.name c.as_str.result.now c.place_of_name.result
    (Some c.in-Some.i) c.as_slice.ensures c.as_str.ensures c.place_of_name.ensures.place c.in-Some.is in
    c.put.ensures.new ∙ set_variable_at c.args.name c.args.value c.args.variables.now c.in-Some.i at

pub returns-in-None : goal.returns-in-None
returns-in-None c =
    let at = placed c.args.variables.now c.as_slice.result.now c.args.name c.as_str.result.now c.place_of_name.result
    None c.as_slice.ensures c.as_str.ensures c.place_of_name.ensures.place c.in-None.is in
    subst (λ z. OnOk c.push.result (c.push.new.self ≡ z))
    (set_variable_last c.args.name c.args.value c.args.variables.now at) c.push.ensures.ok
