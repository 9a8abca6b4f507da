-- What a `Progress` has: where it saves, the texts of cells that it keeps, and whether a save of it failed.
use Rattle.std.specs.Prelude.{ℕ, Bool, true, List, Option, Result, Ok, Err}
use Rattle.nb_model.specs.declared.cell.Cell.{Cell}
use Rattle.progress_save.specs.declared.progress.Progress.{Progress}
use Rattle.progress_save.specs.declared.progress_fault.ProgressFault.{ProgressFault}
use Rattle.progress_save.specs.declared.progress_fault.ProgressFault.TheVariants as fault
use Rattle.progress_save.specs.Kept as kept

-- the path that it saves to
abbrev pub output_of : Progress → List ℕ
output_of p = p.output

-- a save of it has failed
abbrev pub has_failed : Progress → Bool
has_failed p = p.has_failed

-- the text that it keeps for the cell at this index
abbrev pub kept_text : Progress → ℕ → Option (List ℕ)
kept_text p i = kept.text_at p.kept i

-- it keeps the same texts
abbrev pub KeepsSame : Progress → Progress → Type 0
KeepsSame old new = kept.KeepsSame old.kept new.kept

-- each text that it keeps is that of the cell at its index
abbrev pub Fits : Progress → List Cell → Type 0
Fits p cs = kept.Fits p.kept cs

-- it keeps the texts of just these cells
abbrev pub KeepsAll : Progress → List Cell → Type 0
KeepsAll p cs = kept.KeepsAll p.kept cs

-- whether a save has failed, after a call with this answer
abbrev pub failed_after : {U : Type 0} → Result U ProgressFault → Bool → Bool
failed_after (Ok u) was = was
failed_after (Err (fault.Save f)) was = true
failed_after (Err fault.Closed) was = was
failed_after (Err fault.NoMemory) was = was

-- which texts it keeps after a save with this answer: all, once the disk was called
abbrev pub KeepsAfter : {U : Type 0} → Result U ProgressFault → List Cell → Progress → Progress → Type 0
KeepsAfter (Ok u) cs old new = KeepsAll new cs
KeepsAfter (Err (fault.Save f)) cs old new = KeepsAll new cs
KeepsAfter (Err fault.Closed) cs old new = KeepsSame old new
KeepsAfter (Err fault.NoMemory) cs old new = KeepsSame old new
