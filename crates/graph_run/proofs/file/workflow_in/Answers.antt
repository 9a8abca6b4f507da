use Rattle.std.proofs.Common.{[]}
use Rattle.words.specs.declared.usage.Usage.TheVariants as usage_fault
use Rattle.world.proofs.MomentsLemmas.{tells_as}
use Rattle.world.specs.declared.read_file.ReadFile.TheVariants as found
use Rattle.graph_run.specs.declared.end.End.TheVariants as end
use Rattle.graph_run.specs.File.{cannot_read, too_large}
use Rattle.graph_run.proofs.RanLemmas.{none_at, memory_at, given_at, refused_at}
use Rattle.graph_run.proofs.file.workflow_in.Goals as goal

pub returns-in-Ok-clause-entries : goal.returns-in-Ok-clause-entries
returns-in-Ok-clause-entries g c = tells_as c.in-Whole.ensures.tells
    (given_at c.args.file.now c.args.common.now c.in-Whole.bytes c.bytes-in-Whole.result.now c.in-Ok.flow c.bytes-in-Whole.ensures c.in-Ok.ensures.given)

pub returns-in-Whole-clause-entries : goal.returns-in-Whole-clause-entries
returns-in-Whole-clause-entries g c = tells_as c.in-Whole.ensures.tells
    (refused_at c.args.file.now c.in-Whole.bytes c.bytes-in-Whole.result.now c.in-Err.usage c.refusal.result.end c.bytes-in-Whole.ensures
    c.refusal.ensures.end c.refusal.ensures.memory c.in-Err.ensures.refused)

pub returns-in-Big-clause-entries : goal.returns-in-Big-clause-entries
returns-in-Big-clause-entries g c = tells_as c.in-Big.ensures.tells (λ past.
    none_at c.args.file.now found.Big (end.Refused (usage_fault.BadJobs [])) c.too_large.result.end c.too_large.ensures.end past too_large)

pub returns-in-Failed-clause-entries : goal.returns-in-Failed-clause-entries
returns-in-Failed-clause-entries g c = tells_as c.in-Failed.ensures.tells (λ past.
    none_at c.args.file.now found.Failed end.NotRead c.refusal-in-Failed.result.end c.refusal-in-Failed.ensures.end past cannot_read)

pub returns-clause-entries : goal.returns-clause-entries
returns-clause-entries g c = tells_as c.in-NoMemory.ensures.tells
    (memory_at c.args.file.now found.NoMemory c.no_memory.result.end c.no_memory.ensures)
