use Rattle.std.proofs.Common.{◌<◌, ap, arith}
use Rattle.world.specs.Counts.{Counts, Rose}
use Rattle.world.proofs.CountsLemmas.{disk_grows, rose_still, say_grows}
use Rattle.world.proofs.MomentsLemmas.{told_then}
use Rattle.graph_run.proofs.CauseLemmas.{kept_end, kept_since}
use Rattle.graph_run.proofs.RanLemmas.{file_ran, file_refused, line_of}
use Rattle.graph_run.proofs.command.run_file.Goals as goal

pub returns-in-Ok-clause-ran : goal.returns-in-Ok-clause-ran
returns-in-Ok-clause-ran g c words asked =
    let old = g.W.Journal.counts c.args.w.now in
    let from = g.W.Journal.counts c.workflow_in.new.w in
    let new = g.W.Journal.counts c.run_flow.new.w in
    told_then c.in-Ok.ensures.entries c.run_flow.ensures.ran (λ x y z given on.
    file_ran words c.args.limits.now.here c.args.limits.now.turns (Rose from.say new.say) (Rose old.say new.say) (0 < new.say) old from new x y z c.args.file.now c.args.common.now c.in-Ok.flow
    c.run_flow.result asked (ap (λ k. Rose (Counts.say k) new.say) c.workflow_in.ensures.counts.others) (disk_grows c.workflow_in.ensures.counts) given on)

pub returns-in-Err-clause-ran : goal.returns-in-Err-clause-ran
returns-in-Err-clause-ran g c words asked =
    let old = g.W.Journal.counts c.args.w.now in
    let new = g.W.Journal.counts c.say.new.w in
    told_then c.in-Err.ensures.entries c.say.ensures.tells (λ x y z none says.
    file_refused words c.args.limits.now.here c.args.limits.now.turns (Rose old.say new.say) (0 < new.say) old new x y z c.args.file.now c.args.common.now c.in-Err.answer.end c.code.result
    c.line.result.now asked c.code.ensures
    (line_of c.args.file.now c.in-Err.answer c.line.result.now c.in-Err.ensures.text c.line.ensures.memory c.line.ensures.text) none says)

pub returns-in-Ok-clause-kept : goal.returns-in-Ok-clause-kept
returns-in-Ok-clause-kept g c =
    kept_since g.W.Journal.counts c.args.w.now c.workflow_in.new.w c.run_flow.new.w c.args.limits.now.turns c.run_flow.result c.workflow_in.ensures.counts c.run_flow.ensures.kept

pub returns-in-Err-clause-kept : goal.returns-in-Err-clause-kept
returns-in-Err-clause-kept g c =
    let old = g.W.Journal.counts c.args.w.now in
    let mid = g.W.Journal.counts c.workflow_in.new.w in
    let new = g.W.Journal.counts c.say.new.w in
    let a = ap (λ k. Counts.waits k) c.workflow_in.ensures.counts.others in
    let b = ap (λ k. Counts.waits k) c.say.ensures.counts.others in
    kept_end g.W.Journal.counts c.args.w.now c.say.new.w c.args.limits.now.turns c.code.result c.in-Err.answer.end c.code.ensures
    (λ e. rose_still old.disk mid.disk new.disk (c.in-Err.ensures.read_fault e) (say_grows c.say.ensures.counts).disk) (omega (arith, a, b))
