use Rattle.std.proofs.Common.{◌<◌, [], ◌∷◌, ◌++◌, ◌∙◌, ap, arith}
use Rattle.world.specs.Counts.{Rose, Counts}
use Rattle.world.proofs.MomentsLemmas.{told_as}
use Rattle.nbrun_top.proofs.Batches.{of_one, of_starved}
use Rattle.nbrun_top.proofs.CodeLemmas.{starved_counted}
use Rattle.nbrun_top.proofs.execution.run_one.Goals as goal

pub returns-in-Ok-clause-executed : goal.returns-in-Ok-clause-executed
returns-in-Ok-clause-executed g c words is =
    told_as c.run_all.ensures.runs (λ x y runs new.
    of_one words c.args.ask c.push.new.self (Rose (g.W.Journal.counts c.args.w.now).say (g.W.Journal.counts c.run_all.new.w).say) (0 < (g.W.Journal.counts c.run_all.new.w).say)
    c.run_all.result x y (c.in-Ok.ensures.ok ∙ ap (λ xs. xs ++ c.args.ask ∷ []) c.new-asks.ensures) is runs new)

pub returns-in-Err-clause-executed : goal.returns-in-Err-clause-executed
returns-in-Err-clause-executed g c words is =
    told_as c.say_no_memory.ensures.says (λ x y says new.
    of_starved words (Rose (g.W.Journal.counts c.args.w.now).say (g.W.Journal.counts c.say_no_memory.new.w).say) (0 < (g.W.Journal.counts c.say_no_memory.new.w).say)
    c.say_no_memory.result x y c.say_no_memory.ensures.status says new)

pub returns-in-Err-clause-counted : goal.returns-in-Err-clause-counted
returns-in-Err-clause-counted g c = starved_counted c.args.limits.now.turns (g.W.Journal.counts c.args.w.now) (g.W.Journal.counts c.say_no_memory.new.w) c.say_no_memory.result c.say_no_memory.ensures.status

pub returns-in-Err-clause-waits : goal.returns-in-Err-clause-waits
returns-in-Err-clause-waits g c = omega (arith, ap (λ k. Counts.waits k) c.say_no_memory.ensures.counts.others)
