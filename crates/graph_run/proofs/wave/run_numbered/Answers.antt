use Rattle.std.proofs.Common.{◌<◌}
use Rattle.world.proofs.MomentsLemmas.{told_as, told_both}
use Rattle.batch_run.specs.Batch.{AreSaid}
use Rattle.graph_run.proofs.RunLemmas.{told_ok}
use Rattle.graph_run.proofs.wave.run_numbered.Goals as goal

pub returns-clause-ran : goal.returns-clause-ran
returns-clause-ran g c =
    let new = g.W.Journal.counts c.run_jobs.new.w in
    let e = c.run_jobs.ensures in
    let said = told_ok (λ answers. AreSaid c.args.asks answers (0 < new.say)) c.run_jobs.result e.jobs e.said in
    told_as (told_both (told_both e.jobs e.others) (told_both (told_both e.calls e.children) said)) (λ x y b.
    record {
      jobs = b.0.0;
      said = b.1.1;
      others = b.0.1;
      calls = b.1.0.0;
      children = b.1.0.1;
      one_each = e.one_each;
      ends = e.ends;
      spent = e.spent;
    })
