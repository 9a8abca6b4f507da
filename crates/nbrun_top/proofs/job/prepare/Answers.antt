use Rattle.world.proofs.MomentsLemmas.{tells_as, told_then}
use Rattle.world.specs.declared.read_file.ReadFile.TheVariants as found
use Rattle.nbrun_top.specs.declared.end.End.TheVariants as end
use Rattle.nbrun_top.specs.Ran.{Prepares, cannot_read, too_large, no_memory_later, read_of}
use Rattle.nbrun_top.proofs.Runs.{refused_at, not_accepted_at, saved_at}
use Rattle.std.proofs.Common.{subst, sym}
use Rattle.nbrun_top.proofs.job.prepare.Goals as goal

pub returns-in-Ok-clause-entries : goal.returns-in-Ok-clause-entries
returns-in-Ok-clause-entries g c = told_then c.in-Whole.ensures.tells c.save_of.ensures.entries (λ x y z read saved.
    saved_at c.args.ask.now c.in-Whole.bytes c.in-Ok.notebook c.save_of.result.end c.in-Ok.ensures.ok x y z read saved)

pub returns-in-Err-clause-entries : goal.returns-in-Err-clause-entries
returns-in-Err-clause-entries g c = tells_as c.in-Whole.ensures.tells
    (not_accepted_at c.args.ask.now c.in-Whole.bytes c.in-Err.fault c.not_loaded.result.end c.in-Err.ensures.err c.not_loaded.ensures.end)

pub returns-in-Big-clause-entries : goal.returns-in-Big-clause-entries
returns-in-Big-clause-entries g c = tells_as c.in-Big.ensures.tells (λ past. refused_at c.args.ask.now found.Big end.TooLarge c.refusal.result.end c.refusal.ensures.end past too_large)

pub returns-in-Failed-clause-entries : goal.returns-in-Failed-clause-entries
returns-in-Failed-clause-entries g c = tells_as c.in-Failed.ensures.tells (λ past. refused_at c.args.ask.now found.Failed end.NotRead c.refusal-in-Failed.result.end c.refusal-in-Failed.ensures.end past cannot_read)

pub returns-in-NoMemory-clause-entries : goal.returns-in-NoMemory-clause-entries
returns-in-NoMemory-clause-entries g c = tells_as c.in-NoMemory.ensures.tells (λ past.
    subst (λ e. Prepares c.args.ask.now past e (read_of c.args.ask.now found.NoMemory past)) (sym c.no_memory.ensures) (no_memory_later found.NoMemory))
