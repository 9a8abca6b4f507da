-- What the run of an exercise makes of its world, and what is told of it.
use Rattle.std.specs.Prelude.{◌≡◌, ℕ, List, [], ◌∷◌, Some}
use Rattle.batch_run.specs.Batch.{Makes, LeavesOthers}
use Rattle.nbrun_top.specs.ExerciseNumbers.{AreNumbers}
use Rattle.nbrun_top.specs.Exercise.{ask, output, IsOpened}
use Rattle.nbrun_top.specs.declared.tally.Tally.{Tally}
use Rattle.world.specs.Counts.{no_counts}
use Rattle.world.specs.declared.entry.Entry.{Entry}
use Rattle.world_mem.specs.declared.near.Near.{Near}
use Rattle.world_mem.specs.Folder.{file_at}
use Rattle.world_mem.specs.Near.{journal_of, counts_of}
use Rattle.world_mem.specs.Store.{files_of}

-- the journal of a world is told, and no memory was refused to it
pub record IsWhole (near : Near) : Type 0 where
  pub journal : List Entry
  pub told : journal_of near ≡ Some journal
  pub fed : near.store.starved ≡ 0

-- the one job has run over the world and ended with the answer of the tally, and its numbers are those of the output file
pub record HasRun (near : Near) (t : Tally) : Type 0 where
  pub journal : List Entry
  pub told : journal_of near ≡ Some journal
  pub fed : near.store.starved ≡ 0
  pub job : Makes 0 ask (Some t.answer) no_counts (counts_of near) [] journal
  pub others : LeavesOthers (ask ∷ []) [] journal
  pub numbers : AreNumbers (file_at output (files_of near.store)) t.cells t.outputs

-- A world was opened for so many cells, and a run has this tally. The empty journal and the counts of the opened world are
-- those that the run began with; nothing says that the files at its start are those of the opened world.
pub record IsTally (n : ℕ) (t : Tally) : Type 0 where
  pub opened : Near
  pub is_opened : IsOpened n opened
  pub near : Near
  pub run : HasRun near t
