use Rattle.std.proofs.Common.{sym, ap, ◌∙◌, map, subst}
use Rattle.std.specs.List.{AllByRecursion}
use Rattle.words.specs.JobsAsked.{ask_of_job}
use Rattle.words.specs.Runnable.{IsRunnable}
use Rattle.words.proofs.JobsLaws.{only_valid}
use Rattle.words.proofs.RunnableJobs.{asks_runnable}
use Rattle.words.proofs.batch.jobs.Goals as goal

pub returns-clause-asked : goal.returns-clause-asked
returns-clause-asked c =
    let tree = c.in-Some.tree in (
      tree,
      rw c.in-Some.is at c.in_ok-tree.ensures,
      only_valid c.args.file.now tree (sym c.in_ok-place.ensures ∙ c.in-None.is),
      c.in_ok-asks-in-None.ensures ∙ ap (map (ask_of_job c.args.common.now)) c.jobs_of.ensures,
    )

pub returns-clause-runnable : goal.returns-clause-runnable
returns-clause-runnable c = λ run.
    let tree = c.in-Some.tree in
    subst (AllByRecursion IsRunnable) (sym (c.in_ok-asks-in-None.ensures ∙ ap (map (ask_of_job c.args.common.now)) c.jobs_of.ensures))
    (asks_runnable c.args.bytes.now c.args.common.now tree (rw c.in-Some.is at c.in_ok-tree.ensures) run)
