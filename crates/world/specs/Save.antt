-- One save: create, writes, sync and rename of a temporary file, and sync of the folder.
use Rattle.std.specs.Prelude.{◌≡◌, ℕ, List, [], ◌∷◌, ◌++◌, codes}
use Rattle.world.specs.declared.entry.Entry.{Entry}
use Rattle.world.specs.declared.entry.Entry.TheVariants.{Created, Wrote, Synced, Renamed, DirSynced}
use Rattle.world.specs.declared.did.Did.TheVariants.{Done}
use Rattle.world.specs.Disk.{folder_of}

-- the file that a save writes first, beside the output
abbrev pub temporary_of : List ℕ → List ℕ
temporary_of output = output ++ codes ".nbrun-tmp"

-- the file was created and these bytes were written to it, each call done and none between
pub data Writes (path : List ℕ) (before : List Entry) : List ℕ → List Entry → Type 0 where
  first : Writes path before [] (Created path Done ∷ before)
  later : {bytes piece : List ℕ} {past : List Entry}
      → Writes path before bytes past → Writes path before (bytes ++ piece) (Wrote path piece Done ∷ past)

-- the text was written to one path, which was synced and renamed to the other, whose folder was synced
pub record Saves (from to text : List ℕ) (before after : List Entry) : Type 0 where
  pub past : List Entry
  pub writes : Writes from before text past
  pub ends : after ≡ DirSynced (folder_of to) Done ∷ Renamed from to Done ∷ Synced from Done ∷ past
