-- What follows of the start of a kernel's program.
use Rattle.std.proofs.Common.{ℕ, ◌<◌, List, [], ◌∷◌, length, Result, Ok, Err, refl, sym, subst, arith}
use Rattle.kspec.specs.Arguments.{AreFilled}
use Rattle.world.specs.declared.did.Did.{Did}
use Rattle.world.specs.declared.did.Did.TheVariants as did
use Rattle.world.specs.declared.entry.Entry.{Entry}
use Rattle.world.specs.declared.entry.Entry.TheVariants.{Started}
use Rattle.world.specs.Moments.{Since, start, more}
use Rattle.world.specs.Parts.{IsOf, OnKids}
use Rattle.world.specs.Touched.{Spares}
use Rattle.kernel_start.specs.declared.kernel.Kernel.{Kernel}
use Rattle.kernel_start.specs.declared.launch_fault.LaunchFault.{LaunchFault}
use Rattle.kernel_start.specs.declared.launch_fault.LaunchFault.TheVariants as fault
use Rattle.kernel_start.specs.Launch.{StartsChild, Launches}

-- where the spec has a program, so have the arguments
pub has_program : (file folder : List ℕ) (words outs : List (List ℕ)) → AreFilled file folder words outs → 0 < length words → 0 < length outs
has_program file folder [] outs filled some = absurd (omega arith)
has_program file folder (w ∷ words) [] filled some = absurd filled
has_program file folder (w ∷ words) (out ∷ outs) filled some = omega arith

module _ (P : List Entry → Type 0) (kernel : Kernel) (number : ℕ) (file cwd : List ℕ) (before : List Entry)
    (on_start : (argv : List (List ℕ)) (d : Did) → P (Started number argv kernel.spec.env cwd d ∷ before)) where
  each_child : (d : Did) (after : List Entry) → StartsChild kernel number file cwd d before after → Since P before after
  each_child d after starts = subst (Since P before) (sym starts.ends) (more start (on_start starts.argv d))

  each_launch : {U : Type 0} (result : Result U LaunchFault) (after : List Entry) → Launches kernel number file cwd result before after → Since P before after
  each_launch (Ok u) after starts = each_child did.Done after starts
  each_launch (Err fault.Failed) after starts = each_child did.Failed after starts
  each_launch (Err fault.NoMemory) after same = subst (Since P before) (sym same) start

-- only the children are asked for
pub launch_part : {U : Type 0} (kernel : Kernel) (number : ℕ) (file cwd : List ℕ) (result : Result U LaunchFault) (before after : List Entry)
    → Launches kernel number file cwd result before after → Since (IsOf OnKids) before after
launch_part kernel number file cwd result before = each_launch (IsOf OnKids) kernel number file cwd before (λ argv d. refl) result

-- no path is touched
pub launch_spares : {U : Type 0} (path : List ℕ) (kernel : Kernel) (number : ℕ) (file cwd : List ℕ) (result : Result U LaunchFault) (before after : List Entry)
    → Launches kernel number file cwd result before after → Since (Spares path) before after
launch_spares path kernel number file cwd result before = each_launch (Spares path) kernel number file cwd before (λ argv d. refl) result
