use Rattle.std.proofs.Common.{◌<◌, arith}
use Rattle.world.specs.Counts.{Rose}
use Rattle.world.proofs.MomentsLemmas.{told_as, told_then}
use Rattle.graph_run.proofs.CauseLemmas.{kept_no_memory, kept_ran}
use Rattle.graph_run.proofs.RanLemmas.{flow_ran, flow_stopped}
use Rattle.graph_run.proofs.command.run_flow.Goals as goal

pub returns-in-Ok-clause-ran : goal.returns-in-Ok-clause-ran
returns-in-Ok-clause-ran g c =
    let old = g.W.Journal.counts c.args.w.now in
    let new = g.W.Journal.counts c.run_waves.new.w in
    told_as c.in-Ok.ensures.ran (λ x y ran.
    flow_ran c.args.flow.now c.args.limits.now.here c.args.limits.now.turns (0 < new.say) old new x y c.in-Ok.standing c.as_slice.result.now c.len.result c.say_faults-faults.result
    c.first_fault-code.result c.unless_not_said.result c.as_slice.ensures c.len.ensures c.say_faults-faults.ensures.is ran c.first_fault-code.ensures c.unless_not_said.ensures.answers)

pub returns-in-Err-clause-ran : goal.returns-in-Err-clause-ran
returns-in-Err-clause-ran g c =
    let old = g.W.Journal.counts c.args.w.now in
    let new = g.W.Journal.counts c.say_no_memory.new.w in
    told_then c.in-Err.ensures.ran c.say_no_memory.ensures.says (λ x y z stops says.
    flow_stopped c.args.flow.now c.args.limits.now.here c.args.limits.now.turns (Rose old.say new.say) (0 < new.say) old (g.W.Journal.counts c.run_waves.new.w) new x y z c.say_no_memory.result
    c.say_no_memory.ensures.status stops c.say_no_memory.ensures.counts says)

pub returns-in-Ok-clause-kept : goal.returns-in-Ok-clause-kept
returns-in-Ok-clause-kept g c =
    kept_ran g.W.Journal.counts c.args.w.now c.run_waves.new.w c.args.limits.now.turns c.len.result c.first_fault-code.result c.unless_not_said.result c.say_faults-faults.result c.in-Ok.standing.ended
    c.as_slice.result.now c.as_slice.ensures c.say_faults-faults.ensures.is c.first_fault-code.ensures c.in-Ok.ensures.caused c.run_waves.ensures.waits c.unless_not_said.ensures.answers
    c.unless_not_said.ensures.not_said c.unless_not_said.ensures.heard

pub returns-in-Err-clause-kept : goal.returns-in-Err-clause-kept
returns-in-Err-clause-kept g c =
    let a = c.run_waves.ensures.waits in
    let b = c.say_no_memory.ensures.waits in
    kept_no_memory g.W.Journal.counts c.args.w.now c.say_no_memory.new.w c.args.limits.now.turns c.say_no_memory.result c.say_no_memory.ensures.status (omega (arith, a, b))
