use Rattle.job_saves.proofs.CourseLemmas.{begins_pass}
use Rattle.job_saves.proofs.TellingLemmas.{only_later}
use Rattle.job_begin.proofs.BeginLemmas.{end_unsaved, disk_calls, disk_keeps_end, disk_asks_none, none_started_in, only_prepared, saving_told, spoken_since}
use Rattle.job_begin.proofs.StandLemmas.{fresh_kept, has_cells}
use Rattle.job_run.proofs.EndLemmas.{uncaused_ends}
use Rattle.job_run.proofs.StartLemmas.{fresh_ends}
use Rattle.world.proofs.MomentsLemmas.{told_as, told_both, told_start, told_then}
use Rattle.job_run.proofs.LaunchLemmas.{ends_then}
use Rattle.job_run.proofs.TurnLemmas.{new_passes, begins_rested}
use Rattle.job_begin.proofs.CauseLemmas.{saving_caused}
use Rattle.job_begin.proofs.CountLemmas.{uncaused_counts, start_counts, saves_count, whole_for}
use Rattle.job_begin.specs.Begun.{counted_task}
use Rattle.job_begin.specs.Steps.{EndsCounted}
use Rattle.nb_model.specs.Planned.{plan}
use Rattle.std.proofs.Common.{◌≡◌, ℕ, List, length, refl, sym, ap, subst, arith}
use Rattle.job_saves.specs.Course.{IsFor, Begins, Ends}
use Rattle.job_end.specs.declared.end.End.TheVariants as end
use Rattle.job_begin.proofs.EndLemmas.{saving_in, uncaused_in, started_with, saving_ends, starting_ends}
use Rattle.job_begin.proofs.beginning.execute.Goals as goal

pub returns-then-len-eq0-clause-cause : goal.returns-then-len-eq0-clause-cause
returns-then-len-eq0-clause-cause g c = saving_caused (g.W.Journal.counts c.args.w.now) (g.W.Journal.counts c.save_twice-saved.new.w) c.end_of.result (c.end_of.ensures.kind c.save_twice-saved.ensures.kind)

pub returns-in-Ok-kernel_of-clause-course : goal.returns-in-Ok-kernel_of-clause-course
returns-in-Ok-kernel_of-clause-course g c o for s fresh =
    c.start.ensures.course o for (begins_pass o _ _ _ _ (c.kernel_of.ensures.others o.output) c.kernel_of.ensures.work.grow s)
    (new_passes o _ _ (begins_rested o _ _ s) (c.kernel_of.ensures.others o.output) fresh)

pub returns-in-Ok-kernel_of-clause-calls : goal.returns-in-Ok-kernel_of-clause-calls
returns-in-Ok-kernel_of-clause-calls g c own runs cast since from who childless portless lacks so =
    let e = c.kernel_of.ensures in
    c.start.ensures.calls cast since from who (c.in-Ok-kernel_of.ensures.found own) (λ clean. disk_keeps_end c.args.number _ _ e.part (childless clean))
    (λ clean. disk_asks_none c.args.number _ _ e.part (portless clean))
    (λ clean. only_later c.args.ask c.args.notebook _ _ (e.others c.args.ask.output) (only_prepared c.args.ask c.args.notebook _ runs own (lacks clean)))
    (disk_calls cast since from _ _ _ _ (e.calls cast c.args.number who.has own) e.part e.work so)

pub returns-in-Ok-kernel_of-clause-left : goal.returns-in-Ok-kernel_of-clause-left
returns-in-Ok-kernel_of-clause-left g c =
    ends_then (λ x keeps h. keeps (disk_keeps_end c.args.number _ _ c.kernel_of.ensures.part h)) c.start.result c.start.ensures.left

pub returns-in-Err-clause-course : goal.returns-in-Err-clause-course
returns-in-Err-clause-course g c o for s fresh =
    end_unsaved o _ _ _ c.in-Err.ensures.unsaved (begins_pass o _ _ _ _ (c.kernel_of.ensures.others o.output) c.kernel_of.ensures.work.grow s)

pub returns-in-Err-clause-calls : goal.returns-in-Err-clause-calls
returns-in-Err-clause-calls g c own runs cast since from who childless portless lacks so =
    disk_calls cast since from _ _ _ _ (c.kernel_of.ensures.calls cast c.args.number who.has own) c.kernel_of.ensures.part c.kernel_of.ensures.work so

pub returns-in-Err-clause-left : goal.returns-in-Err-clause-left
returns-in-Err-clause-left g c = disk_keeps_end c.args.number _ _ c.kernel_of.ensures.part

pub returns-then-len-eq0-clause-calls : goal.returns-then-len-eq0-clause-calls
returns-then-len-eq0-clause-calls g c own runs cast since from who childless portless lacks so =
    c.save_twice-saved.ensures.calls cast c.args.number since from who.has (λ clean. only_prepared c.args.ask c.args.notebook _ runs own (lacks clean)) so

pub returns-then-len-eq0-clause-left : goal.returns-then-len-eq0-clause-left
returns-then-len-eq0-clause-left g c = none_started_in c.args.ask c.args.notebook c.args.number _ _ _ _ c.save_twice-saved.ensures.calls

pub returns-in_default-clause-calls : goal.returns-in_default-clause-calls
returns-in_default-clause-calls g c own runs cast since from who childless portless lacks so = so

pub returns-in_default-clause-left : goal.returns-in_default-clause-left
returns-in_default-clause-left g c = λ h. h

pub returns-in_default-clause-task : goal.returns-in_default-clause-task
returns-in_default-clause-task g c executes = uncaused_in c.args.ask c.args.notebook 12 refl

pub returns-then-len-eq0-clause-task : goal.returns-then-len-eq0-clause-task
returns-then-len-eq0-clause-task g c executes = saving_in c.args.ask c.args.notebook c.end_of.result (λ p some. omega (arith, some, ap (λ (xs : List ℕ). length xs) c.in-Ok.ensures, c.len.ensures, c.if-len-eq0.true)) (c.end_of.ensures.kind c.save_twice-saved.ensures.kind)

pub returns-in-Ok-kernel_of-clause-task : goal.returns-in-Ok-kernel_of-clause-task
returns-in-Ok-kernel_of-clause-task g c executes = started_with c.args.ask c.args.notebook c.start.result c.start.ensures.own c.start.ensures.task

pub returns-in-Err-clause-task : goal.returns-in-Err-clause-task
returns-in-Err-clause-task g c executes = uncaused_in c.args.ask c.args.notebook _ c.in-Err.ensures.uncaused

pub returns-in_default-clause-kernel : goal.returns-in_default-clause-kernel
returns-in_default-clause-kernel g c = saving_ends c.args.ask c.args.notebook _ _ _ tt

pub returns-then-len-eq0-clause-course : goal.returns-then-len-eq0-clause-course
returns-then-len-eq0-clause-course g c o for s fresh =
    subst (λ b. Ends o b (g.W.Journal.journal c.save_twice-saved.new.w) (g.W.Journal.counts c.save_twice-saved.new.w)) (sym c.end_of.ensures.open) (c.save_twice-saved.ensures.course o for s)

pub returns-in_default-clause-course : goal.returns-in_default-clause-course
returns-in_default-clause-course g c o for s fresh = end_unsaved o end.NoMemory _ _ refl s

pub returns-then-len-eq0-clause-kernel : goal.returns-then-len-eq0-clause-kernel
returns-then-len-eq0-clause-kernel g c = saving_ends c.args.ask c.args.notebook _ _ c.end_of.result (c.end_of.ensures.kind c.save_twice-saved.ensures.kind)

pub returns-in-Ok-kernel_of-clause-kernel : goal.returns-in-Ok-kernel_of-clause-kernel
returns-in-Ok-kernel_of-clause-kernel g c = starting_ends c.args.ask c.args.notebook _ _ _ c.start.result c.start.ensures.own

pub returns-in-Err-clause-kernel : goal.returns-in-Err-clause-kernel
returns-in-Err-clause-kernel g c = c.in-Err.ensures.kernel

pub returns-in-Ok-kernel_of-clause-ports : goal.returns-in-Ok-kernel_of-clause-ports
returns-in-Ok-kernel_of-clause-ports g c = c.start.ensures.ports

-- ---- of the events of its end as many are saves as were acknowledged

pub returns-in_default-clause-counted : goal.returns-in_default-clause-counted
returns-in_default-clause-counted g c o for s fresh = uncaused_counts o (counted_task c.args.ask c.args.notebook) (g.W.Journal.journal c.args.w.now) end.NoMemory refl

pub returns-then-len-eq0-clause-counted : goal.returns-then-len-eq0-clause-counted
returns-then-len-eq0-clause-counted g c o for s fresh =
    let a = c.args.ask in
    let n = c.args.notebook in
    let t = c.save_twice-saved in
    let none : length (plan n) ≡ 0 = omega (arith, ap (λ (xs : List ℕ). length xs) c.in-Ok.ensures, c.len.ensures, c.if-len-eq0.true) in
    subst (EndsCounted o (counted_task a n) (g.W.Journal.journal t.new.w)) (sym c.end_of.ensures.answer)
    (saves_count a n o none for.output_is (g.W.Journal.journal c.args.w.now) (g.W.Journal.journal t.new.w) t.result fresh t.ensures.acked (whole_for o t.result (g.W.Journal.journal t.new.w) (length n.cells) (IsFor a.output a.merge n) (λ p. Begins p (g.W.Journal.journal c.args.w.now) (g.W.Journal.counts c.args.w.now)) for s t.ensures.whole) t.ensures.kind)

pub returns-in-Ok-kernel_of-clause-counted : goal.returns-in-Ok-kernel_of-clause-counted
returns-in-Ok-kernel_of-clause-counted g c o for s fresh =
    start_counts c.args.ask c.args.notebook o (g.W.Journal.journal c.start.new.w) c.start.result
    (c.start.ensures.counted o for (begins_pass o _ _ _ _ (c.kernel_of.ensures.others o.output) c.kernel_of.ensures.work.grow s)
    (new_passes o _ _ (begins_rested o _ _ s) (c.kernel_of.ensures.others o.output) fresh))

pub returns-in-Err-clause-counted : goal.returns-in-Err-clause-counted
returns-in-Err-clause-counted g c o for s fresh = uncaused_counts o (counted_task c.args.ask c.args.notebook) (g.W.Journal.journal c.kernel_of.new.w) c.in-Err.end c.in-Err.ensures.uncaused

pub returns-in-Ok-kernel_of-clause-pings : goal.returns-in-Ok-kernel_of-clause-pings
returns-in-Ok-kernel_of-clause-pings g c = c.start.ensures.pings

-- ---- what the job stands for

pub returns-in_default-clause-stands : goal.returns-in_default-clause-stands
returns-in_default-clause-stands g c p = told_start (λ now t. uncaused_ends p end.NoMemory now refl (fresh_ends p now t.fresh))

pub returns-then-len-eq0-clause-stands : goal.returns-then-len-eq0-clause-stands
returns-then-len-eq0-clause-stands g c p =
    let a = c.args.ask in
    let n = c.args.notebook in
    let none : length (plan n) ≡ 0 = omega (arith, ap (λ (xs : List ℕ). length xs) c.in-Ok.ensures, c.len.ensures, c.if-len-eq0.true) in
    told_as (saving_told a n _ _ _ _ c.save_twice-saved.ensures.calls) (λ x y s t. absurd (has_cells p c.args.number a n x t none))

pub returns-in-Ok-kernel_of-clause-stands : goal.returns-in-Ok-kernel_of-clause-stands
returns-in-Ok-kernel_of-clause-stands g c p =
    let e = c.kernel_of.ensures in
    told_then (told_both e.part (e.others p.ask.output)) (c.start.ensures.stands p)
    (λ x y z s so t. so t.plot (fresh_kept p x y s.0 s.1 t.fresh))

pub returns-in-Err-clause-stands : goal.returns-in-Err-clause-stands
returns-in-Err-clause-stands g c p =
    let e = c.kernel_of.ensures in
    told_as (told_both e.part (e.others p.ask.output)) (λ x y s t. uncaused_ends p c.in-Err.end y c.in-Err.ensures.uncaused (fresh_ends p y (fresh_kept p x y s.0 s.1 t.fresh)))

-- ---- the session in which it speaks

pub returns-in-Ok-kernel_of-clause-spoken : goal.returns-in-Ok-kernel_of-clause-spoken
returns-in-Ok-kernel_of-clause-spoken g c = spoken_since c.args.number c.args.ask.output c.start.result _ _ _ c.kernel_of.ensures.part c.start.ensures.spoken
