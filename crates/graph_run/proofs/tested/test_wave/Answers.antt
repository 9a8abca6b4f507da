use Rattle.std.proofs.Common.{◌≡◌, ◌≤◌, ◌∙◌, [], length, get_or, ap, subst, sym, arith}
use Rattle.std.specs.Prelude.{Err}
use Rattle.std.proofs.lemmas.Grind.{get_or_default_zero}
use Rattle.std.specs.List.{AllByRecursion}
use Rattle.words.specs.Runnable.{IsRunnable}
use Rattle.world.specs.Moments.{start}
use Rattle.world.proofs.MomentsLemmas.{since_then, told_start, told_then}
use Rattle.graph_run.specs.declared.tested.Tested.{Tested}
use Rattle.graph_run.specs.Ran.{AreCaused}
use Rattle.graph_run.specs.Tests.{TestsWave}
use Rattle.graph_run.proofs.CauseLemmas.{disk_start, disk_then}
use Rattle.graph_run.proofs.TestLemmas.{test_reads}
use Rattle.graph_run.proofs.WaveTests.{Step, step_caused, step_few, step_reads, step_runnable, step_tests}
use Rattle.graph_run.proofs.tested.test_wave.Goals.{in-Ok+in_ok-pass-in-Ok, in-Err+in_ok-refuse-in-Err+in-NotRead-1, in-Err+in_ok-refuse-in-Err+in-NotLoaded+in-NotNotebook+in-Shape-1, in-Err+in_ok-refuse-in-Err+in-NotLoaded+in-NotNotebook+in-SameId-1, in-Err+in_ok-refuse-in-Err+in-NotLoaded+in-NotNotebook+in-Version-1, in-Err+in_ok-refuse-in-Err+in-NotLoaded+in-NoTranslator-1, in-Err+in_ok-refuse-in-Err+in-NotLoaded+in-NotJson-1, in-Err+in_ok-refuse-in-Err+in-NoScrap-1, in-Err+in_ok-refuse-in-Err+in-Skipped-1}
use Rattle.graph_run.proofs.tested.test_wave.Goals as goal

pub loop-job-init : goal.loop-job-init
loop-job-init g c =
    let old = g.W.Journal.counts c.args.w.now in
    let none = sym c.new-tested.ensures in
    record {
      tests = told_start (λ x. subst (λ (t : Tested). TestsWave c.args.flow.now c.args.ended.now x [] t x) none TestsWave.none);
      reads = told_start (λ x. start);
      runnable = λ h. subst (λ (t : Tested). AllByRecursion IsRunnable t.asks) none tt;
      few = subst (λ (t : Tested). length t.asks ≤ 0) none (omega arith);
      caused = λ most. subst (λ (t : Tested). AreCaused most old old t.refused) none tt;
      counts = disk_start old;
    }

pub returns-in_err-pass-in-Ok-clause-reads : goal.returns-in_err-pass-in-Ok-clause-reads
returns-in_err-pass-in-Ok-clause-reads g c = told_then c.loop-job.invariant.reads c.in-Ok.ensures.told (λ x y z a b. since_then a (test_reads b))

pub returns-in_err-refuse-in-Err-clause-reads : goal.returns-in_err-refuse-in-Err-clause-reads
returns-in_err-refuse-in-Err-clause-reads g c = told_then c.loop-job.invariant.reads c.in-Err.ensures.told (λ x y z a b. since_then a (test_reads b))

pub loop-job-preserved : goal.loop-job-preserved
loop-job-preserved g c =
    let old = g.W.Journal.counts c.args.w.now in
    let k = c.loop-job.job-index in
    let wave = c.args.wave.now in
    let job = get_or wave k 0 in
    let at : job ≡ get_or wave k job = sym (get_or_default_zero wave k job c.loop-job-test.true) in
    let step : Step c.args.flow.now c.args.ended.now job (g.W.Journal.journal c.loop-job.w) (g.W.Journal.journal c.test.new.w) (g.W.Journal.counts c.loop-job.w) (g.W.Journal.counts c.test.new.w) c.loop-job.tested c.match-test.tested =
    elim c.match-test.branch [
      | in-Ok+in_ok-pass-in-Ok w ↦ Step.passed w.in-Ok.ask w.in-Ok.ensures.told w.in-Ok.ensures.runnable (w.tested-is ∙ w.in_ok-pass-in-Ok.ensures)
      | in-Err+in_ok-refuse-in-Err+in-NotRead-1 w ↦ Step.refused w.in-Err.refusal w.in-Err.ensures.told (λ path e. w.in-Err.ensures.read_fault path (ap Err e)) w.in_ok-refuse-in-Err.ensures.memory (w.tested-is ∙ w.in_ok-refuse-in-Err.ensures.refused)
      | in-Err+in_ok-refuse-in-Err+in-NotLoaded+in-NotNotebook+in-Shape-1 w ↦ Step.refused w.in-Err.refusal w.in-Err.ensures.told (λ path e. w.in-Err.ensures.read_fault path (ap Err e)) w.in_ok-refuse-in-Err.ensures.memory (w.tested-is ∙ w.in_ok-refuse-in-Err.ensures.refused)
      | in-Err+in_ok-refuse-in-Err+in-NotLoaded+in-NotNotebook+in-SameId-1 w ↦ Step.refused w.in-Err.refusal w.in-Err.ensures.told (λ path e. w.in-Err.ensures.read_fault path (ap Err e)) w.in_ok-refuse-in-Err.ensures.memory (w.tested-is ∙ w.in_ok-refuse-in-Err.ensures.refused)
      | in-Err+in_ok-refuse-in-Err+in-NotLoaded+in-NotNotebook+in-Version-1 w ↦ Step.refused w.in-Err.refusal w.in-Err.ensures.told (λ path e. w.in-Err.ensures.read_fault path (ap Err e)) w.in_ok-refuse-in-Err.ensures.memory (w.tested-is ∙ w.in_ok-refuse-in-Err.ensures.refused)
      | in-Err+in_ok-refuse-in-Err+in-NotLoaded+in-NoTranslator-1 w ↦ Step.refused w.in-Err.refusal w.in-Err.ensures.told (λ path e. w.in-Err.ensures.read_fault path (ap Err e)) w.in_ok-refuse-in-Err.ensures.memory (w.tested-is ∙ w.in_ok-refuse-in-Err.ensures.refused)
      | in-Err+in_ok-refuse-in-Err+in-NotLoaded+in-NotJson-1 w ↦ Step.refused w.in-Err.refusal w.in-Err.ensures.told (λ path e. w.in-Err.ensures.read_fault path (ap Err e)) w.in_ok-refuse-in-Err.ensures.memory (w.tested-is ∙ w.in_ok-refuse-in-Err.ensures.refused)
      | in-Err+in_ok-refuse-in-Err+in-NoScrap-1 w ↦ Step.refused w.in-Err.refusal w.in-Err.ensures.told (λ path e. w.in-Err.ensures.read_fault path (ap Err e)) w.in_ok-refuse-in-Err.ensures.memory (w.tested-is ∙ w.in_ok-refuse-in-Err.ensures.refused)
      | in-Err+in_ok-refuse-in-Err+in-Skipped-1 w ↦ Step.refused w.in-Err.refusal w.in-Err.ensures.told (λ path e. w.in-Err.ensures.read_fault path (ap Err e)) w.in_ok-refuse-in-Err.ensures.memory (w.tested-is ∙ w.in_ok-refuse-in-Err.ensures.refused)
    ] in
    record {
      tests = step_tests wave k c.loop-job-test.true at c.loop-job.invariant.tests step;
      reads = step_reads c.loop-job.invariant.reads step;
      runnable = step_runnable c.loop-job.invariant.runnable step;
      few = step_few k c.loop-job.invariant.few step;
      caused = λ most. step_caused most old c.loop-job.invariant.counts c.test.ensures.counts (c.loop-job.invariant.caused most) step;
      counts = disk_then c.loop-job.invariant.counts c.test.ensures.counts;
    }
