-- The writing of a connection file (POSIX.1: open, write, fsync), by its entries, the newest first, and what it leaves.
use Rattle.std.specs.Prelude.{◌≡◌, ℕ, List, [], ◌∷◌, Some, Result, Ok, Err}
use Rattle.jtext.specs.Print.{compact}
use Rattle.kspec.specs.Connection.{connection}
use Rattle.save_disk.specs.Entries.{Writes, WriteFails}
use Rattle.world.specs.declared.did.Did.{Did}
use Rattle.world.specs.declared.did.Did.TheVariants.{Done, Failed}
use Rattle.world.specs.declared.entry.Entry.{Entry}
use Rattle.world.specs.declared.entry.Entry.TheVariants.{Created, Synced}
use Rattle.world.specs.declared.left.Left.TheVariants.{Whole}
use Rattle.world.specs.Disk.{Place}
use Rattle.kernel_start.specs.declared.connection_fault.ConnectionFault.{ConnectionFault}
use Rattle.kernel_start.specs.declared.connection_fault.ConnectionFault.TheVariants as fault

-- the text of the connection file of these ports and this key
abbrev pub file_text : List ℕ → List ℕ → List ℕ
file_text ports key = compact (connection ports key)

-- the file was created, the whole text written to it, and it was to be synced, which ended so
pub record WritesAndSyncs (path text : List ℕ) (did : Did) (before after : List Entry) : Type 0 where
  pub past : List Entry
  pub writes : Writes path text (Created path Done ∷ before) [] past
  pub ends : after ≡ Synced path did ∷ past

-- a call for the file failed, and no later one was made
pub data FailsAtFile (path text : List ℕ) (before : List Entry) : List Entry → Type 0 where
  not_created : FailsAtFile path text before (Created path Failed ∷ before)
  not_written : {after : List Entry} → WriteFails path text (Created path Done ∷ before) after → FailsAtFile path text before after
  not_synced : {after : List Entry} → WritesAndSyncs path text Failed before after → FailsAtFile path text before after

-- the making of a file of this text, by how it ended
abbrev pub MakesFile : List ℕ → List ℕ → Did → List Entry → List Entry → Type 0
MakesFile path text Done before after = WritesAndSyncs path text Done before after
MakesFile path text Failed before after = FailsAtFile path text before after

-- the making of a file of this text, by its answer; where memory was refused nothing is asked of the disk
abbrev pub WritesFile : {U : Type 0} → List ℕ → List ℕ → Result U ConnectionFault → List Entry → List Entry → Type 0
WritesFile path text (Ok u) before after = MakesFile path text Done before after
WritesFile path text (Err fault.Failed) before after = MakesFile path text Failed before after
WritesFile path text (Err fault.NoMemory) before after = after ≡ before

-- the place of a path whose file was synced: its name stands for just these bytes, and a crash leaves them
abbrev pub synced_text : List ℕ → Place
synced_text text = record { options = Whole text ∷ []; here = Some (Whole text); fresh = Some text }
