use Rattle.world.proofs.MomentsLemmas.{told_as, told_start}
use Rattle.graph_run.proofs.TestLemmas.{err_is, test_passed, test_refused, test_skipped, test_starved}
use Rattle.graph_run.proofs.testing.test.Goals as goal

pub returns-then-not-are_done-clause-told : goal.returns-then-not-are_done-clause-told
returns-then-not-are_done-clause-told g c =
    told_start (test_skipped c.args.flow.now c.args.ended.now c.args.job c.needs_of.result.now c.needs_of.ensures c.if-not-are_done.ensures)

pub returns-in_err-with_params-in-Ok-clause-told : goal.returns-in_err-with_params-in-Ok-clause-told
returns-in_err-with_params-in-Ok-clause-told g c =
    told_as c.in-Ok.ensures.told
    (test_starved c.args.flow.now c.args.ended.now c.args.job c.needs_of.result.now c.as_slice.result.now c.index-as_slice-job.result c.in-Ok.params c.from_residual.result c.needs_of.ensures
    c.if-not-are_done.ensures c.as_slice.ensures c.requires c.index-as_slice-job.is (err_is c.from_residual.ensures.1))

pub returns-in_ok-with_params-in-Ok-clause-told : goal.returns-in_ok-with_params-in-Ok-clause-told
returns-in_ok-with_params-in-Ok-clause-told g c =
    told_as c.in-Ok.ensures.told
    (test_passed c.args.flow.now c.args.ended.now c.args.job c.needs_of.result.now c.as_slice.result.now c.index-as_slice-job.result c.in_ok-with_params-in-Ok.field-0 c.in-Ok.params c.needs_of.ensures
    c.if-not-are_done.ensures c.as_slice.ensures c.requires c.index-as_slice-job.is c.in_ok-with_params-in-Ok.ensures)

pub returns-in-Err-clause-told : goal.returns-in-Err-clause-told
returns-in-Err-clause-told g c =
    told_as c.in-Err.ensures.told
    (test_refused c.args.flow.now c.args.ended.now c.args.job c.needs_of.result.now c.as_slice.result.now c.index-as_slice-job.result c.in-Err.refusal c.needs_of.ensures
    c.if-not-are_done.ensures c.as_slice.ensures c.requires c.index-as_slice-job.is)
