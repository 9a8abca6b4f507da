use Rattle.std.proofs.Common.{◌∙◌, ◌++◌, sym, ap, arith, subst}
use Rattle.std.specs.Prelude.{Result}
use Rattle.jtext.specs.declared.no_memory.NoMemory.{NoMemory}
use Rattle.world.proofs.CountsLemmas.{grow_start}
use Rattle.world.proofs.MomentsLemmas.{told_start, told_as}
use Rattle.graph_run.proofs.CauseLemmas.{answers_caused}
use Rattle.graph_run.proofs.TestLemmas.{err_is}
use Rattle.graph_run.proofs.RunLemmas.{ends_done, jobs_caused, jobs_done, jobs_stopped, none_done}
use Rattle.graph_run.specs.Waves.{MakesTested, StopsTested}
use Rattle.graph_run.proofs.wave.run_tested.Goals as goal

pub returns-in_err-add-clause-made : goal.returns-in_err-add-clause-made
returns-in_err-add-clause-made g c =
    let old = g.W.Journal.counts c.args.w.now in
    told_start (λ x. subst (λ (r : Result (Unit {0}) NoMemory). MakesTested c.args.tested c.args.limits.now.here c.args.limits.now.turns c.args.standing.now old x r c.add.new.self old x)
    (sym (err_is c.from_residual.ensures.1)) StopsTested.before_jobs)

pub returns-in_err-add-clause-counts : goal.returns-in_err-add-clause-counts
returns-in_err-add-clause-counts g c = grow_start _

pub returns-then-is_empty-clause-made : goal.returns-then-is_empty-clause-made
returns-then-is_empty-clause-made g c =
    let s = c.args.standing.now in
    let none = c.is_empty.ensures.0 c.if-is_empty.true in
    let ended = c.in_ok-add.ensures.ended ∙ ap (λ es. s.ended ++ es) c.as_slice.ensures in
    told_start (λ x. none_done c.args.tested c.args.limits.now.here c.args.limits.now.turns s c.add.new.self (g.W.Journal.counts c.args.w.now) x none ended c.add.ensures.ran)

pub returns-in-Ok-clause-made : goal.returns-in-Ok-clause-made
returns-in-Ok-clause-made g c =
    let s = c.args.standing.now in
    let few = c.requires.few in
    let a = c.add.ensures.ran in
    let b = c.add_answers.ensures.ran in
    let d = c.len-more.ensures in
    told_as c.in-Ok.ensures.ran (λ x y ran.
    jobs_done c.args.tested c.args.limits.now.here c.args.limits.now.turns s c.add_answers.new.self (g.W.Journal.counts c.args.w.now) (g.W.Journal.counts c.run_numbered.new.w) x y c.in-Ok.answers
    c.add_answers.result _ ran (omega (arith, few, a))
    (ends_done c.add_answers.result c.add_answers.new.self.ended s.ended c.add.new.self.ended c.as_slice.result.now c.args.tested.refused c.as_slice-in-Ok.result.now c.args.tested.jobs
    c.as_slice-in-Ok-2.result.now c.in-Ok.answers c.in_ok-add.ensures.ended c.as_slice.ensures c.as_slice-in-Ok.ensures c.as_slice-in-Ok-2.ensures c.add_answers.ensures.ended)
    (omega (arith, a, b, d)))

pub returns-in-Ok-clause-caused : goal.returns-in-Ok-clause-caused
returns-in-Ok-clause-caused g c most from is grow p q =
    let s = c.args.standing.now in
    let t = c.args.tested in
    let old = g.W.Journal.counts c.args.w.now in
    let new = g.W.Journal.counts c.run_numbered.new.w in
    let turns = c.args.limits.now.turns in
    jobs_caused turns most t s c.add_answers.new.self from old new c.in-Ok.answers c.add_answers.result is grow c.run_numbered.ensures.counts p q
    (answers_caused turns t.asks t.jobs c.in-Ok.answers old new c.in-Ok.ensures.one_each c.in-Ok.ensures.ends c.in-Ok.ensures.spent)
    (ends_done c.add_answers.result c.add_answers.new.self.ended s.ended c.add.new.self.ended c.as_slice.result.now t.refused c.as_slice-in-Ok.result.now t.jobs
    c.as_slice-in-Ok-2.result.now c.in-Ok.answers c.in_ok-add.ensures.ended c.as_slice.ensures c.as_slice-in-Ok.ensures c.as_slice-in-Ok-2.ensures c.add_answers.ensures.ended)

pub returns-clause-made : goal.returns-clause-made
returns-clause-made g c =
    let few = c.requires.few in
    let a = c.add.ensures.ran in
    told_as c.in-Err.ensures.ran (λ x y ran.
    jobs_stopped c.args.tested c.args.limits.now.here c.args.limits.now.turns c.args.standing.now (g.W.Journal.counts c.args.w.now) (g.W.Journal.counts c.run_numbered.new.w) x y _ _ ran
    (omega (arith, few, a)))
