use Rattle.std.proofs.Common.{subst}
use Rattle.graph_run.specs.Promise.{Promise}
use Rattle.nbrun_main.proofs.program.run_words.Goals as goal

pub returns-clause-report : goal.returns-clause-report
returns-clause-report g c rest run is = c.run.ensures.report rest is

pub returns-clause-graph : goal.returns-clause-graph
returns-clause-graph g c rest run is =
    subst (λ here. Promise g.W.Journal.journal g.W.Journal.counts c.args.w.now c.run.new.w rest here 1099511627776 c.run.result) c.usual.ensures.here
    (subst (λ turns. Promise g.W.Journal.journal g.W.Journal.counts c.args.w.now c.run.new.w rest c.usual.result.here turns c.run.result) c.usual.ensures.turns
    (c.run.ensures.graph rest is))
