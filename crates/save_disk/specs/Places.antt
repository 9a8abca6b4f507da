-- What is known of the output at each moment of a save, and after it: what a crash may leave there, and what the path names.
use Rattle.std.specs.Prelude.{◌≡◌, ℕ, ◌+◌, List, [], ◌∷◌, ◌++◌, Some, None, Result, Ok, Err}
use Rattle.world.specs.declared.entry.Entry.{Entry}
use Rattle.world.specs.declared.left.Left.TheVariants.{Whole}
use Rattle.world.specs.Acked.{ack_count}
use Rattle.world.specs.Disk.{Place, place}
use Rattle.world.specs.Save.{temporary_of}
use Rattle.save_disk.specs.declared.save_fault.SaveFault.{SaveFault}
use Rattle.save_disk.specs.declared.save_fault.SaveFault.TheVariants as fault

-- how many saves of the output were acknowledged
abbrev pub save_count : List ℕ → List Entry → ℕ
save_count output journal = ack_count (temporary_of output) output journal

-- the folder was synced: a crash leaves the text
abbrev pub durable_place : List ℕ → Place
durable_place text = record { options = Whole text ∷ []; here = Some (Whole text); fresh = None }

-- the text was renamed onto the path: a crash leaves what it could before, or the text
abbrev pub renamed_place : List ℕ → Place → Place
renamed_place text was = record { options = was.options ++ Whole text ∷ []; here = Some (Whole text); fresh = None }

-- the rename failed: the same, and what the path names is unsure
abbrev pub unsure_place : List ℕ → Place → Place
unsure_place text was = record { options = was.options ++ Whole text ∷ []; here = None; fresh = None }

-- the place of the output after a save with this answer
abbrev pub place_after : {U : Type 0} → List ℕ → Result U SaveFault → Place → Place
place_after text (Ok u) was = durable_place text
place_after text (Err fault.DirSync) was = renamed_place text was
place_after text (Err fault.Rename) was = unsure_place text was
place_after text (Err fault.Sync) was = was
place_after text (Err fault.Write) was = was

-- how many saves are acknowledged after one with this answer: one more exactly after Ok
abbrev pub acknowledged_after : {U : Type 0} → Result U SaveFault → ℕ → ℕ
acknowledged_after (Ok u) n = n + 1
acknowledged_after (Err e) n = n

-- what has come of a save in the end
pub record SaveEnd {U : Type 0} (output text : List ℕ) (result : Result U SaveFault) (before after : List Entry) : Type 0 where
  pub place_is : place after output ≡ place_after text result (place before output)
  pub count_is : save_count output after ≡ acknowledged_after result (save_count output before)

-- At a moment of a save the output is as before, renamed or unsure, and nothing was acknowledged since; or it is durable, and this save was.
pub data SaveMoment (output text : List ℕ) (before now : List Entry) : Type 0 where
  as_before : save_count output now ≡ save_count output before → place now output ≡ place before output → SaveMoment output text before now
  renamed : save_count output now ≡ save_count output before → place now output ≡ renamed_place text (place before output) → SaveMoment output text before now
  unsure : save_count output now ≡ save_count output before → place now output ≡ unsure_place text (place before output) → SaveMoment output text before now
  durable : save_count output now ≡ save_count output before + 1 → place now output ≡ durable_place text → SaveMoment output text before now
