use Rattle.std.proofs.Common.{subst}
use Rattle.world.specs.Told.{FoundWithin}
use Rattle.world.specs.declared.read_file.ReadFile.TheVariants as found
use Rattle.job_begin.specs.Begun.{refused, too_large, no_memory}
use Rattle.job_begin.proofs.CellCounts.{few_cells}
use Rattle.job_begin.proofs.EndLemmas.{load_uncaused, cannot_read, read_so}
use Rattle.job_begin.proofs.beginning.notebook_in.Goals as goal

pub returns-in-Ok-clause-read : goal.returns-in-Ok-clause-read
returns-in-Ok-clause-read c = (c.in-Whole.bytes, c.in-Whole.is, c.in-Ok.ensures.ok)

pub returns-in-Ok-clause-few : goal.returns-in-Ok-clause-few
returns-in-Ok-clause-few c =
    few_cells c.args.ask.now c.in-Whole.bytes c.in-Ok.notebook c.in-Ok.ensures.ok (subst (λ r. FoundWithin r 33554432) c.in-Whole.is c.requires)

pub returns-in-Err-clause-uncaused : goal.returns-in-Err-clause-uncaused
returns-in-Err-clause-uncaused c = load_uncaused c.in-Err.fault

pub returns-in-Err-clause-none : goal.returns-in-Err-clause-none
returns-in-Err-clause-none c before =
    read_so c.args.ask.now _ before (found.Whole c.in-Whole.bytes) c.args.read c.in-Whole.is (refused c.in-Whole.bytes c.in-Err.fault c.in-Err.ensures.err)

pub returns-in-Big-clause-none : goal.returns-in-Big-clause-none
returns-in-Big-clause-none c before = read_so c.args.ask.now _ before found.Big c.args.read c.in-Big.is too_large

pub returns-in-Failed-clause-none : goal.returns-in-Failed-clause-none
returns-in-Failed-clause-none c before =
    read_so c.args.ask.now _ before found.Failed c.args.read c.in-Failed.is (cannot_read c.args.ask.now c.not_read.result before c.not_read.ensures.kind)

pub returns-in-NoMemory-clause-none : goal.returns-in-NoMemory-clause-none
returns-in-NoMemory-clause-none c before = no_memory c.args.read
