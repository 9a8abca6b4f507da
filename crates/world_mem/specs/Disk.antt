-- What a disk in memory tells and counts.
use Rattle.std.specs.Prelude.{List, Option}
use Rattle.world.specs.declared.entry.Entry.{Entry}
use Rattle.world.specs.Counts.{Counts}
use Rattle.world_mem.specs.declared.mem_disk.MemDisk.{MemDisk}
use Rattle.world_mem.specs.Journals.{told_of}

-- the journal of the disk
abbrev pub journal_in : MemDisk → Option (List Entry)
journal_in disk = told_of disk.journal

-- the counts of the disk: only calls of the disk and of what is said can fail
abbrev pub counts_in : MemDisk → Counts
counts_in disk = record {
  disk = disk.store.disk_faults;
  net = 0;
  waits = 0;
  child = 0;
  rand = 0;
  say = disk.store.say_faults;
  last = 0;
}
