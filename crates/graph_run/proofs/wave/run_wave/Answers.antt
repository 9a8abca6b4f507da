use Rattle.std.proofs.Common.{◌<◌, ap, arith}
use Rattle.world.specs.Counts.{Counts}
use Rattle.world.proofs.CountsLemmas.{disk_grows, say_grows, grow_then, grow_start}
use Rattle.world.proofs.MomentsLemmas.{told_as}
use Rattle.graph_run.proofs.CauseLemmas.{all_since}
use Rattle.graph_run.proofs.RunLemmas.{tested_told, wave_told}
use Rattle.graph_run.specs.Waves.{StopsIn}
use Rattle.graph_run.proofs.wave.run_wave.Goals as goal

pub returns-in-Ok-clause-made : goal.returns-in-Ok-clause-made
returns-in-Ok-clause-made g c =
    let f = c.args.flow.now in
    let s = c.args.standing.now in
    let mid = g.W.Journal.counts c.say.new.w in
    wave_told f c.args.limits.now.here c.args.limits.now.turns c.args.wave.now s c.run_tested.new.standing c.in-Ok.tested mid (g.W.Journal.counts c.run_tested.new.w) c.run_tested.result
    (tested_told f c.args.wave.now s.ended c.as_slice.result.now c.in-Ok.tested c.bytes.result.now (0 < mid.say) c.as_slice.ensures c.bytes.ensures c.in-Ok.ensures.told c.say.ensures.tells)
    c.run_tested.ensures.made

pub returns-in-Err-clause-made : goal.returns-in-Err-clause-made
returns-in-Err-clause-made g c = told_as c.in-Err.ensures.reads (λ x y h. StopsIn.in_tests h)

pub returns-in-Ok-clause-caused : goal.returns-in-Ok-clause-caused
returns-in-Ok-clause-caused g c most from is grow all =
    let old = g.W.Journal.counts c.args.w.now in
    let read = g.W.Journal.counts c.test_wave.new.w in
    let mid = g.W.Journal.counts c.say.new.w in
    let reads = disk_grows c.test_wave.ensures.counts in
    let says = say_grows c.say.ensures.counts in
    let both = grow_then reads says in
    let a = ap (λ k. Counts.waits k) c.test_wave.ensures.counts.others in
    let b = ap (λ k. Counts.waits k) c.say.ensures.counts.others in
    c.run_tested.ensures.caused most from (omega (arith, is, a, b)) (grow_then grow both)
    (all_since most from from old mid c.args.standing.now.ended (grow_start from) both all)
    (all_since most from old read mid c.in-Ok.tested.refused grow says (c.in-Ok.ensures.caused most))

pub returns-in-Ok-clause-counts : goal.returns-in-Ok-clause-counts
returns-in-Ok-clause-counts g c = grow_then (disk_grows c.test_wave.ensures.counts) (grow_then (say_grows c.say.ensures.counts) c.run_tested.ensures.counts)

pub returns-in-Err-clause-counts : goal.returns-in-Err-clause-counts
returns-in-Err-clause-counts g c = disk_grows c.test_wave.ensures.counts

pub returns-in-Ok-clause-waits : goal.returns-in-Ok-clause-waits
returns-in-Ok-clause-waits g c =
    let a = ap (λ k. Counts.waits k) c.test_wave.ensures.counts.others in
    let b = ap (λ k. Counts.waits k) c.say.ensures.counts.others in
    let d = c.run_tested.ensures.waits in
    omega (arith, a, b, d)

pub returns-in-Err-clause-waits : goal.returns-in-Err-clause-waits
returns-in-Err-clause-waits g c = let a = ap (λ k. Counts.waits k) c.test_wave.ensures.counts.others in omega (arith, a)
