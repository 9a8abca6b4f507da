-- The entries of a save, the newest first (POSIX.1: open, write, fsync, rename, fsync of the folder).
use Rattle.std.specs.Prelude.{◌≡◌, ◌⊎◌, ℕ, List, [], ◌∷◌, take, drop, Result, Ok, Err}
use Rattle.world.specs.declared.entry.Entry.{Entry}
use Rattle.world.specs.declared.entry.Entry.TheVariants.{Created, Wrote, Synced, Renamed, DirSynced}
use Rattle.world.specs.declared.did.Did.{Did}
use Rattle.world.specs.declared.did.Did.TheVariants.{Done, Failed}
use Rattle.world.specs.Disk.{folder_of}
use Rattle.world.specs.Save.{temporary_of}
use Rattle.save_disk.specs.declared.save_fault.SaveFault.{SaveFault}
use Rattle.save_disk.specs.declared.save_fault.SaveFault.TheVariants as fault

-- done writes of the text to the path, up to this rest of it
pub data Writes (path text : List ℕ) (before : List Entry) : List ℕ → List Entry → Type 0 where
  none : Writes path text before text before
  more : {rest : List ℕ} {past : List Entry} (n : ℕ) → Writes path text before rest past
      → Writes path text before (drop n rest) (Wrote path (take n rest) Done ∷ past)

-- done writes, and one that failed
pub record WriteFails (path text : List ℕ) (before after : List Entry) : Type 0 where
  pub rest : List ℕ
  pub past : List Entry
  pub writes : Writes path text before rest past
  pub fails : after ≡ Wrote path rest Failed ∷ past

-- the writes of a whole text, by how they ended
abbrev pub WritesBy : List ℕ → List ℕ → Did → List Entry → List Entry → Type 0
WritesBy path text Done before after = Writes path text before [] after
WritesBy path text Failed before after = WriteFails path text before after

-- the whole text was written to a new temporary file, and then these entries came
pub record WroteAnd (output text : List ℕ) (before : List Entry) (ending : List Entry → List Entry) (after : List Entry) : Type 0 where
  pub past : List Entry
  pub writes : Writes (temporary_of output) text (Created (temporary_of output) Done ∷ before) [] past
  pub ends : after ≡ ending past

-- the entries of a save, by its answer
abbrev pub SaveOf : {U : Type 0} → List ℕ → List ℕ → Result U SaveFault → List Entry → List Entry → Type 0
SaveOf output text (Ok u) before after = WroteAnd output text before (λ past.
    DirSynced (folder_of output) Done ∷ Renamed (temporary_of output) output Done ∷ Synced (temporary_of output) Done ∷ past) after
SaveOf output text (Err fault.DirSync) before after = WroteAnd output text before (λ past.
    DirSynced (folder_of output) Failed ∷ Renamed (temporary_of output) output Done ∷ Synced (temporary_of output) Done ∷ past) after
SaveOf output text (Err fault.Rename) before after = WroteAnd output text before (λ past.
    Renamed (temporary_of output) output Failed ∷ Synced (temporary_of output) Done ∷ past) after
SaveOf output text (Err fault.Sync) before after = WroteAnd output text before (λ past. Synced (temporary_of output) Failed ∷ past) after
SaveOf output text (Err fault.Write) before after = (after ≡ Created (temporary_of output) Failed ∷ before)
    ⊎ WriteFails (temporary_of output) text (Created (temporary_of output) Done ∷ before) after
