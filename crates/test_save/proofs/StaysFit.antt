-- The texts that are kept after a save are those of its notebook's cells.
use Rattle.std.proofs.Common.{inr}
use Rattle.std.specs.Prelude.{◌≡◌, ◌⊎◌, ℕ, List, None, Result, Ok, Err}
use Rattle.nb_model.specs.declared.cell.Cell.{Cell}
use Rattle.progress_save.specs.declared.progress.Progress.{Progress}
use Rattle.progress_save.specs.declared.progress_fault.ProgressFault.{ProgressFault}
use Rattle.progress_save.specs.declared.progress_fault.ProgressFault.TheVariants as fault
use Rattle.progress_save.specs.State.{kept_text, Fits, KeepsAll, KeepsAfter}

-- so they are, where all are kept and where none is new
pub stays_fit : {U : Type 0} → (r : Result U ProgressFault) (cs : List Cell) (p q : Progress)
    → ((s : Progress) (ds : List Cell) → KeepsAll s ds → Fits s ds)
    → ((s t : Progress) (ds : List Cell) → ((i : ℕ) → (kept_text t i ≡ None) ⊎ (kept_text t i ≡ kept_text s i)) → Fits s ds → Fits t ds)
    → KeepsAfter r cs p q → Fits p cs → Fits q cs
stays_fit (Ok u) cs p q all fewer kept fits = all q cs kept
stays_fit (Err (fault.Save f)) cs p q all fewer kept fits = all q cs kept
stays_fit (Err fault.Closed) cs p q all fewer kept fits = fewer p q cs (λ i. inr (kept i)) fits
stays_fit (Err fault.NoMemory) cs p q all fewer kept fits = fewer p q cs (λ i. inr (kept i)) fits
