use Rattle.std.proofs.Common.{◌<◌, ◌+◌, ℕ, List, [], length, ap, subst, sym, arith}
use Rattle.std.specs.Prelude.{Result}
use Rattle.std.specs.List.{AllByRecursion}
use Rattle.jtext.specs.declared.no_memory.NoMemory.{NoMemory}
use Rattle.job_graph.specs.Waves.{job_count}
use Rattle.world.proofs.CountsLemmas.{grow_start, grow_then}
use Rattle.world.proofs.MomentsLemmas.{told_as, told_start, told_then}
use Rattle.graph_run.specs.declared.standing.Standing.{Standing}
use Rattle.graph_run.specs.Ran.{AreCaused}
use Rattle.graph_run.specs.Waves.{Runs, RunsAll, RunsWave, StopsIn}
use Rattle.graph_run.proofs.RunLemmas.{left_waits, stops_between, wave_few, wave_more, wave_stops, wave_within}
use Rattle.graph_run.proofs.TestLemmas.{err_is}
use Rattle.graph_run.proofs.wave.run_waves.Goals as goal

pub loop-wave-init : goal.loop-wave-init
loop-wave-init g c =
    let old = g.W.Journal.counts c.args.w.now in
    let turns = c.args.limits.now.turns in
    let none = c.new-standing.ensures in
    let few = c.requires.few in
    let ran = ap (λ (s : Standing). s.ran) none in
    let size = ap job_count c.as_slice-waves.ensures in
    record {
      runs = told_start (λ x. subst (λ (s : Standing). Runs c.args.flow.now c.args.limits.now.here turns old x [] s old x) (sym none) Runs.none);
      are = c.as_slice-waves.ensures;
      from = c.waits-from.ensures.is;
      caused = subst (λ (s : Standing). AreCaused (old.waits + turns) old old s.ended) (sym none) tt;
      few = omega (arith, few, ran, size);
      counts = grow_start old;
      waits = omega arith;
    }

pub returns-in_err-left-clause-ran : goal.returns-in_err-left-clause-ran
returns-in_err-left-clause-ran g c =
    let f = c.args.flow.now in
    let here = c.args.limits.now.here in
    let turns = c.args.limits.now.turns in
    let old = g.W.Journal.counts c.args.w.now in
    let mid = g.W.Journal.counts c.loop-wave.w in
    told_as c.loop-wave.invariant.runs (λ x y runs.
    subst (λ (r : Result Standing NoMemory). RunsAll f here turns old x r mid y) (sym (err_is c.from_residual.ensures.1))
    (stops_between f here turns old mid x y c.as_slice-waves.result.now c.loop-wave.wave-index c.loop-wave.standing c.loop-wave.invariant.are runs))

pub run_wave-requires-clause-jobs : goal.run_wave-requires-clause-jobs
run_wave-requires-clause-jobs g c =
    let P : List ℕ → Type 0 = AllByRecursion (λ job. job < length c.args.flow.now.asks) in
    subst P (sym c.as_slice.ensures)
    (wave_within P c.as_slice-waves.result.now c.loop-wave.wave-index c.wave-item.result (subst (AllByRecursion P) (sym c.as_slice-waves.ensures) c.requires.jobs) c.loop-wave-test.true c.wave-item.is)

pub returns-in_err-run_wave-clause-ran : goal.returns-in_err-run_wave-clause-ran
returns-in_err-run_wave-clause-ran g c =
    let f = c.args.flow.now in
    let here = c.args.limits.now.here in
    let turns = c.args.limits.now.turns in
    let left = c.in_ok-left.left in
    let s = c.loop-wave.standing in
    let old = g.W.Journal.counts c.args.w.now in
    let mid = g.W.Journal.counts c.loop-wave.w in
    let new = g.W.Journal.counts c.run_wave.new.w in
    let waits = left_waits left.turns turns c.waits.result c.waits-from.result mid.waits old.waits c.in_ok-left.ensures.turns c.waits.ensures.is c.loop-wave.invariant.from c.loop-wave.invariant.counts.waits in
    told_then c.loop-wave.invariant.runs c.in_err-run_wave.ensures.made (λ x y z runs stops.
    subst (λ (r : Result Standing NoMemory). RunsAll f here turns old x r new z) (sym (err_is c.from_residual-in_err-run_wave.ensures.1))
    (wave_stops f here turns old mid new x y z c.as_slice-waves.result.now c.loop-wave.wave-index left.turns c.wave-item.result s c.loop-wave.invariant.are c.loop-wave-test.true c.wave-item.is runs waits
    (subst (λ h. StopsIn f h left.turns c.wave-item.result s y new z) c.in_ok-left.ensures.here
    (subst (λ (w : List ℕ). StopsIn f left.here left.turns w s y new z) c.as_slice.ensures stops))))

pub loop-wave-preserved : goal.loop-wave-preserved
loop-wave-preserved g c =
    let f = c.args.flow.now in
    let here = c.args.limits.now.here in
    let turns = c.args.limits.now.turns in
    let left = c.in_ok-left.left in
    let s = c.loop-wave.standing in
    let then = c.run_wave.new.standing in
    let waves = c.as_slice-waves.result.now in
    let k = c.loop-wave.wave-index in
    let wave : List ℕ = c.wave-item.result in
    let old = g.W.Journal.counts c.args.w.now in
    let mid = g.W.Journal.counts c.loop-wave.w in
    let new = g.W.Journal.counts c.run_wave.new.w in
    let waits = left_waits left.turns turns c.waits.result c.waits-from.result mid.waits old.waits c.in_ok-left.ensures.turns c.waits.ensures.is c.loop-wave.invariant.from c.loop-wave.invariant.counts.waits in
    let ran = c.run_wave.ensures.ran in
    let size = ap length c.as_slice.ensures in
    let few = c.loop-wave.invariant.few in
    let rest = wave_few waves k wave c.loop-wave-test.true c.wave-item.is in
    let spent = c.run_wave.ensures.waits in
    record {
      runs = told_then c.loop-wave.invariant.runs c.in_ok-run_wave.ensures.made (λ x y z runs one.
          wave_more f here turns old mid new x y z waves k left.turns wave s then c.loop-wave-test.true c.wave-item.is runs waits
          (subst (λ h. RunsWave f h left.turns wave s y then new z) c.in_ok-left.ensures.here
          (subst (λ (w : List ℕ). RunsWave f left.here left.turns w s y then new z) c.as_slice.ensures one)));
      are = c.loop-wave.invariant.are;
      from = c.loop-wave.invariant.from;
      caused = c.in_ok-run_wave.ensures.caused (old.waits + turns) old (omega (arith, waits)) c.loop-wave.invariant.counts c.loop-wave.invariant.caused;
      few = omega (arith, ran, size, few, rest);
      counts = grow_then c.loop-wave.invariant.counts c.run_wave.ensures.counts;
      waits = omega (arith, waits, spent);
    }
