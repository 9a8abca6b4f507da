use Rattle.std.proofs.Common.{◌≡◌, ◌⊎◌, ◌∙◌, ap, subst, sym, length}
use Rattle.std.specs.Prelude.{Result, IfErr}
use Rattle.words.specs.declared.usage.Usage.{Usage}
use Rattle.words.specs.declared.usage.Usage.TheVariants as usage
use Rattle.graph_run.specs.declared.workflow.Workflow.{Workflow}
use Rattle.graph_run.specs.File.{IsRefused}
use Rattle.graph_run.proofs.TestLemmas.{err_is}
use Rattle.graph_run.proofs.FileLemmas.{count_asks, graph_keyed, no_jobs_in, graph_bad, graph_cycle, waves_within}
use Rattle.graph_run.proofs.file.workflow_of.Goals as goal

pub asks_of-requires : goal.asks_of-requires
asks_of-requires c = graph_keyed c.args.bytes.now c.in-Ok.graph c.in-Ok.ensures.given

pub returns-in_err-asks-in-Ok-clause-refused : goal.returns-in_err-asks-in-Ok-clause-refused
returns-in_err-asks-in-Ok-clause-refused c =
    subst (λ (r : Result Workflow Usage). IfErr r (λ u. (u ≡ usage.NoMemory) ⊎ IsRefused c.args.file.now c.args.bytes.now u)) (sym (err_is c.from_residual.ensures.1))
    (no_jobs_in c.args.file.now c.args.bytes.now c.in-Ok.graph _ c.in-Ok.ensures.given c.in_err-asks-in-Ok.ensures.refused)

pub returns-in_ok-waves-in-Ok-clause-jobs : goal.returns-in_ok-waves-in-Ok-clause-jobs
returns-in_ok-waves-in-Ok-clause-jobs c =
    waves_within c.in-Ok.graph.needs c.in_ok-waves-in-Ok.waves (length c.in_ok-asks-in-Ok.asks) c.in_ok-waves-in-Ok.ensures.waves
    (sym (ap length c.in_ok-asks-in-Ok.ensures.asked ∙ count_asks c.args.bytes.now c.in-Ok.graph c.args.common.now c.in-Ok.ensures.given))

pub returns-in-Err-Bad-clause-refused : goal.returns-in-Err-Bad-clause-refused
returns-in-Err-Bad-clause-refused c = graph_bad c.args.file.now c.args.bytes.now c.in-Err-Bad.pointer c.in-Err-Bad.field-0 c.in-Err-Bad.field-0-is c.in-Err-Bad.ensures.refused

pub returns-in-Err-Cycle-clause-refused : goal.returns-in-Err-Cycle-clause-refused
returns-in-Err-Cycle-clause-refused c =
    graph_cycle c.args.file.now c.args.bytes.now c.in-Err-Cycle.job c.in-Err-Cycle.field-0 c.cycle_at.result c.in-Err-Cycle.field-0-is c.in-Err-Cycle.ensures.refused c.cycle_at.ensures
