use Rattle.std.proofs.Common.{◌≡◌, ◌⊎◌, subst, sym}
use Rattle.world.proofs.MomentsLemmas.{tells_as, told_then}
use Rattle.world.specs.declared.read_file.ReadFile.TheVariants as found
use Rattle.report_run.specs.declared.end.End.TheVariants as end
use Rattle.report_run.specs.Made.{Gives, CannotMake}
use Rattle.report_run.specs.Ran.{Makes, cannot_read, too_large, no_memory_later, read_of}
use Rattle.report_run.proofs.Runs.{refused_at, cannot_make_at, saved_at}
use Rattle.report_run.proofs.saving.carry_out.Goals as goal

pub returns-in-Ok-clause-entries : goal.returns-in-Ok-clause-entries
returns-in-Ok-clause-entries g c = told_then c.in-Whole.ensures.tells c.save_text.ensures.entries (λ x y z read saved.
    saved_at c.args.request.now c.in-Whole.bytes c.in-Ok.text c.save_text.result.end
    (subst (λ b. Gives c.args.request.now.form b c.in-Ok.text) c.bytes-in-Whole.ensures c.in-Ok.ensures.made) x y z read saved)

pub returns-in-Whole-clause-entries : goal.returns-in-Whole-clause-entries
returns-in-Whole-clause-entries g c = tells_as c.in-Whole.ensures.tells (λ past.
    cannot_make_at c.args.request.now c.in-Whole.bytes c.in-Err.end c.refusal.result.end (subst (λ b. (c.in-Err.end ≡ end.NoMemory) ⊎ CannotMake c.args.request.now.form b c.in-Err.end) c.bytes-in-Whole.ensures c.in-Err.ensures.refused) c.refusal.ensures.end past)

pub returns-in-Big-clause-entries : goal.returns-in-Big-clause-entries
returns-in-Big-clause-entries g c = tells_as c.in-Big.ensures.tells (λ past. refused_at c.args.request.now found.Big end.TooLarge c.refusal-in-Big.result.end c.refusal-in-Big.ensures.end past too_large)

pub returns-in-Failed-clause-entries : goal.returns-in-Failed-clause-entries
returns-in-Failed-clause-entries g c = tells_as c.in-Failed.ensures.tells (λ past. refused_at c.args.request.now found.Failed end.NotRead c.refusal-in-Failed.result.end c.refusal-in-Failed.ensures.end past cannot_read)

pub returns-clause-entries : goal.returns-clause-entries
returns-clause-entries g c = tells_as c.in-NoMemory.ensures.tells (λ past.
    subst (λ e. Makes c.args.request.now past e (read_of c.args.request.now found.NoMemory past)) (sym c.no_memory.ensures) (no_memory_later found.NoMemory))
