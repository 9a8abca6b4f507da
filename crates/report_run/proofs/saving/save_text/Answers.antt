use Rattle.std.proofs.Common.{sym, subst}
use Rattle.world.proofs.MomentsLemmas.{told_start, told_as}
use Rattle.report_run.specs.declared.end.End.TheVariants as end
use Rattle.report_run.specs.Ran.{SavesAs}
use Rattle.report_run.proofs.Runs.{saves_done, saves_failed, not_made_at}
use Rattle.report_run.proofs.saving.save_text.Goals as goal

pub returns-in_default-clause-entries : goal.returns-in_default-clause-entries
returns-in_default-clause-entries g c = told_start (not_made_at c.args.request.now.output c.args.text.now c.no_memory.result.end c.no_memory.ensures)

pub returns-in-Ok-save-clause-entries : goal.returns-in-Ok-save-clause-entries
returns-in-Ok-save-clause-entries g c = told_as c.in-Ok-save.ensures.entries (λ x y save.
    subst (λ e. SavesAs c.args.request.now.output c.args.text.now x e y) (sym c.on_done.ensures.end)
    (subst (λ t. SavesAs c.args.request.now.output t x end.Done y) c.bytes.ensures
    (saves_done c.args.request.now.output c.in-Ok.parts.0 c.bytes.result.now c.in-Ok.ensures.path x y c.in-Ok-save.field-0 save)))

pub returns-clause-entries : goal.returns-clause-entries
returns-clause-entries g c = told_as c.in-Err.ensures.entries (λ x y save.
    subst (λ e. SavesAs c.args.request.now.output c.args.text.now x e y) (sym c.on_fault.ensures.end)
    (subst (λ t. SavesAs c.args.request.now.output t x (end.NotSaved c.in-Err.fault) y) c.bytes.ensures
    (saves_failed c.args.request.now.output c.in-Ok.parts.0 c.bytes.result.now c.in-Ok.ensures.path x y (Unit {0}) c.in-Err.fault save)))
