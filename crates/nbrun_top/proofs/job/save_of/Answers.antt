use Rattle.std.proofs.Common.{◌∙◌, sym, subst}
use Rattle.world.proofs.MomentsLemmas.{told_start, told_as}
use Rattle.nbrun_top.specs.Ran.{SavesAs}
use Rattle.nbrun_top.proofs.Runs.{saves_done, saves_failed, some_text, not_made_at}
use Rattle.nbrun_top.proofs.job.save_of.Goals as goal

pub returns-in_default-clause-entries : goal.returns-in_default-clause-entries
returns-in_default-clause-entries g c = told_start (not_made_at c.args.ask.now.output c.args.notebook.now c.no_memory.result.end c.no_memory.ensures)

pub save-requires : goal.save-requires
save-requires g c = some_text c.args.notebook.now c.bytes.result.now (c.bytes.ensures ∙ c.in-Ok.ensures.text)

pub returns-in-Ok-save-clause-entries : goal.returns-in-Ok-save-clause-entries
returns-in-Ok-save-clause-entries g c = told_as c.in-Ok-save.ensures.entries (λ x y save.
    subst (λ e. SavesAs c.args.ask.now.output c.args.notebook.now x e y) (sym c.on_done.ensures.end)
    (saves_done c.args.ask.now.output c.in-Ok.parts.path c.bytes.result.now c.args.notebook.now c.in-Ok.ensures.path (c.bytes.ensures ∙ c.in-Ok.ensures.text) x y
    c.in-Ok-save.field-0 c.len.result c.len.ensures save))

pub returns-clause-entries : goal.returns-clause-entries
returns-clause-entries g c = told_as c.in-Err.ensures.entries (λ x y save.
    subst (λ e. SavesAs c.args.ask.now.output c.args.notebook.now x e y) (sym c.on_fault.ensures.end)
    (saves_failed c.args.ask.now.output c.in-Ok.parts.path c.bytes.result.now c.args.notebook.now c.in-Ok.ensures.path (c.bytes.ensures ∙ c.in-Ok.ensures.text) x y
    (Unit {0}) c.in-Err.fault save))
