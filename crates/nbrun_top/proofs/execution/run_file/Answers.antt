use Rattle.std.proofs.Common.{◌<◌, codes, ap, subst, arith}
use Rattle.world.specs.Counts.{Counts, Rose}
use Rattle.world.proofs.MomentsLemmas.{told_then}
use Rattle.nbrun_top.specs.Executed.{Runs}
use Rattle.nbrun_top.proofs.Batches.{of_batch, of_none}
use Rattle.nbrun_top.proofs.Runs.{said_text}
use Rattle.world.proofs.CountsLemmas.{disk_grows, say_grows}
use Rattle.nbrun_top.proofs.CodeLemmas.{counted_since, unread_counted}
use Rattle.nbrun_top.proofs.execution.run_file.Goals as goal

pub returns-in-Ok-clause-executed : goal.returns-in-Ok-clause-executed
returns-in-Ok-clause-executed g c words is =
    let new = (g.W.Journal.counts c.run_all.new.w).say in
    let same = ap (λ k. Counts.say k) c.asks_in.ensures.counts.others in
    told_then c.in-Ok.ensures.entries c.run_all.ensures.runs (λ x y z gives runs empty.
    of_batch words c.args.file.now c.args.common.now c.in-Ok.asks (Rose (g.W.Journal.counts c.args.w.now).say new) (0 < new) c.run_all.result x y z is gives
    (λ quiet clean alone. subst (λ k. Runs c.in-Ok.asks c.args.limits.now.here (Rose k new) (0 < new) c.run_all.result y z) same (runs quiet clean alone)) empty)

pub returns-in-Err-clause-executed : goal.returns-in-Err-clause-executed
returns-in-Err-clause-executed g c words is =
    told_then c.in-Err.ensures.entries c.say.ensures.tells (λ x y z gives says new.
    of_none words c.args.file.now c.args.common.now c.in-Err.answer c.lines.result.now (Rose (g.W.Journal.counts c.args.w.now).say (g.W.Journal.counts c.say.new.w).say)
    (0 < (g.W.Journal.counts c.say.new.w).say) c.code.result x y z is c.code.ensures
    (said_text c.args.file.now (codes "nbrun") c.in-Err.answer.end c.in-Err.answer.text c.lines.result.now c.in-Err.ensures.text c.lines.ensures.memory c.lines.ensures.text)
    gives says new)

pub returns-in-Ok-clause-counted : goal.returns-in-Ok-clause-counted
returns-in-Ok-clause-counted g c =
    counted_since c.args.limits.now.turns (g.W.Journal.counts c.args.w.now) (g.W.Journal.counts c.asks_in.new.w) (g.W.Journal.counts c.run_all.new.w) c.run_all.result (disk_grows c.asks_in.ensures.counts)
    c.run_all.ensures.counted

pub returns-in-Err-clause-counted : goal.returns-in-Err-clause-counted
returns-in-Err-clause-counted g c =
    unread_counted c.args.limits.now.turns (g.W.Journal.counts c.args.w.now) (g.W.Journal.counts c.asks_in.new.w) (g.W.Journal.counts c.say.new.w) c.in-Err.answer.end c.code.result c.code.ensures
    c.in-Err.ensures.end c.in-Err.ensures.read_fault (say_grows c.say.ensures.counts)

pub returns-in-Ok-clause-waits : goal.returns-in-Ok-clause-waits
returns-in-Ok-clause-waits g c = omega (arith, ap (λ k. Counts.waits k) c.asks_in.ensures.counts.others, c.run_all.ensures.waits)

pub returns-in-Err-clause-waits : goal.returns-in-Err-clause-waits
returns-in-Err-clause-waits g c = omega (arith, ap (λ k. Counts.waits k) c.asks_in.ensures.counts.others, ap (λ k. Counts.waits k) c.say.ensures.counts.others)
