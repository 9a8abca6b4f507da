use Rattle.std.proofs.Common.{Some, Err, sym, subst}
use Rattle.kspec.specs.declared.spec_fault.SpecFault.TheVariants as spec_fault
use Rattle.kernel_start.specs.declared.kernel_fault.KernelFault.TheVariants as fault
use Rattle.kernel_start.specs.Finding.{Finds, too_large, no_bytes}
use Rattle.kernel_start.proofs.FindingLaws.{whole_answer, failed_answer}
use Rattle.kernel_start.proofs.kernel.Kernel.of_answer.Goals as goal

pub returns-in-Whole : goal.returns-in-Whole
returns-in-Whole c a n same at =
    subst (λ answer. Finds a n (Some answer) c.of_bytes.result) (sym c.in-Whole.is)
    (whole_answer a n c.args.place c.args.interrupt c.in-Whole.bytes c.bytes-in-Whole.result.now c.of_bytes.result same at c.bytes-in-Whole.ensures c.of_bytes.ensures)

pub returns-in-Big : goal.returns-in-Big
returns-in-Big c a n same at =
    subst (λ answer. Finds a n (Some answer) (Err (fault.BadSpec spec_fault.NotJson))) (sym c.in-Big.is) (too_large at.good)

pub returns-in-Failed : goal.returns-in-Failed
returns-in-Failed c a n same at =
    subst (λ answer. Finds a n (Some answer) (Err (fault.NotRead c.args.place.path))) (sym c.in-Failed.is) (failed_answer a n c.args.place at)

pub returns-in-NoMemory : goal.returns-in-NoMemory
returns-in-NoMemory c a n same at =
    subst (λ answer. Finds a n (Some answer) (Err fault.NoMemory)) (sym c.in-NoMemory.is) (no_bytes at.good)
