use Rattle.std.proofs.Common.{true, ◌<◌, [], refl, arith, ap}
use Rattle.world.specs.Counts.{Rose, Counts}
use Rattle.world.proofs.CountsLemmas.{say_grows}
use Rattle.world.proofs.MomentsLemmas.{told_as, told_both, told_then}
use Rattle.nbrun_top.specs.declared.end.End.TheVariants as end
use Rattle.nbrun_top.specs.Lines.{all_lines}
use Rattle.nbrun_top.proofs.Executions.{runs_done, runs_starved}
use Rattle.nbrun_top.proofs.Statuses.{job_status}
use Rattle.nbrun_top.proofs.CodeLemmas.{jobs_counted, starved_counted}
use Rattle.nbrun_top.proofs.execution.run_all.Goals as goal

pub returns-in-Ok-clause-runs : goal.returns-in-Ok-clause-runs
returns-in-Ok-clause-runs g c =
    let old = g.W.Journal.counts c.args.w.now in
    let new = g.W.Journal.counts c.run_jobs.new.w in
    let status = job_status c.say_faults-faults.result old.say new.say c.first_fault.result c.unless_not_said.result c.in-Ok.answers c.as_slice.result.now c.say_faults-faults.ensures.is
    c.first_fault.ensures c.as_slice.ensures c.unless_not_said.ensures.answers in
    told_as (told_both (told_both (told_both c.in-Ok.ensures.jobs c.in-Ok.ensures.others) (told_both c.in-Ok.ensures.calls c.in-Ok.ensures.children)) c.in-Ok.ensures.said) (λ x y all quiet clean alone.
    let both = all.0 in
    runs_done c.args.asks c.in-Ok.answers old new (Rose old.say new.say) (0 < new.say) c.unless_not_said.result x y both.0.1 (both.1.0 true (λ e. clean)) both.1.1 both.0.0 c.in-Ok.ensures.one_each status all.1 quiet alone)

pub returns-in-Err-clause-runs : goal.returns-in-Err-clause-runs
returns-in-Err-clause-runs g c =
    let old = g.W.Journal.counts c.args.w.now in
    let mid = g.W.Journal.counts c.run_jobs.new.w in
    let new = g.W.Journal.counts c.say_no_memory.new.w in
    told_then (told_both (told_both c.in-Err.ensures.jobs c.in-Err.ensures.others) (told_both c.in-Err.ensures.calls c.in-Err.ensures.children)) c.say_no_memory.ensures.says (λ x y z both says quiet clean alone.
    runs_starved c.args.asks old mid new (Rose old.say new.say) (0 < new.say) (all_lines [] [] end.NoMemory) c.say_no_memory.result x y z both.0.1 (both.1.0 true (λ e. clean)) both.1.1 both.0.0
    (say_grows c.say_no_memory.ensures.counts) refl says c.requires.some c.say_no_memory.ensures.status quiet alone)

pub returns-in-Ok-clause-counted : goal.returns-in-Ok-clause-counted
returns-in-Ok-clause-counted g c =
    let old = g.W.Journal.counts c.args.w.now in
    let new = g.W.Journal.counts c.run_jobs.new.w in
    let status = job_status c.say_faults-faults.result old.say new.say c.first_fault.result c.unless_not_said.result c.in-Ok.answers c.as_slice.result.now c.say_faults-faults.ensures.is
    c.first_fault.ensures c.as_slice.ensures c.unless_not_said.ensures.answers in
    jobs_counted c.args.limits.now.turns c.args.asks c.in-Ok.answers old new c.unless_not_said.result c.in-Ok.ensures.one_each c.in-Ok.ensures.ends c.in-Ok.ensures.spent status

pub returns-in-Err-clause-counted : goal.returns-in-Err-clause-counted
returns-in-Err-clause-counted g c = starved_counted c.args.limits.now.turns (g.W.Journal.counts c.args.w.now) (g.W.Journal.counts c.say_no_memory.new.w) c.say_no_memory.result c.say_no_memory.ensures.status

pub returns-in-Err-clause-waits : goal.returns-in-Err-clause-waits
returns-in-Err-clause-waits g c = omega (arith, c.run_jobs.ensures.waits, ap (λ k. Counts.waits k) c.say_no_memory.ensures.counts.others)
