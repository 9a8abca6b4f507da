use Rattle.std.proofs.Common.{◌<◌, [], ap, arith}
use Rattle.world.specs.Counts.{Counts, Rose}
use Rattle.world.proofs.MomentsLemmas.{told_as}
use Rattle.graph_run.proofs.CauseLemmas.{kept_refused}
use Rattle.graph_run.proofs.RanLemmas.{line_of, words_refused}
use Rattle.graph_run.proofs.command.refuse.Goals as goal

pub returns-clause-ran : goal.returns-clause-ran
returns-clause-ran g c words here turns asked =
    let old = g.W.Journal.counts c.args.w.now in
    let new = g.W.Journal.counts c.say.new.w in
    told_as c.say.ensures.tells (λ x y says.
    words_refused words here turns (Rose old.say new.say) (0 < new.say) old new x y c.args.usage c.refused-answer.result.end c.code.result c.line.result.now c.code.ensures
    c.refused-answer.ensures.end c.refused-answer.ensures.memory asked
    (line_of [] c.refused-answer.result c.line.result.now c.refused-answer.ensures.text c.line.ensures.memory c.line.ensures.text) says)

pub returns-clause-kept : goal.returns-clause-kept
returns-clause-kept g c turns =
    let b = ap (λ k. Counts.waits k) c.say.ensures.counts.others in
    kept_refused g.W.Journal.counts c.args.w.now c.say.new.w turns c.code.result c.args.usage c.refused-answer.result.end c.code.ensures c.refused-answer.ensures.end (omega (arith, b))
