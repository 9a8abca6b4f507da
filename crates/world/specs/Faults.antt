-- How many calls of each part of the world have failed, by the journal, its newest entry first.
use Rattle.std.specs.Prelude.{ℕ, ◌+◌, List, [], ◌∷◌, Bool, true, false, None, if◌then◌else◌}
use Rattle.world.specs.declared.connected.Connected.TheVariants as connected
use Rattle.world.specs.declared.did.Did.{Did}
use Rattle.world.specs.declared.did.Did.TheVariants.{Done, Failed}
use Rattle.world.specs.declared.entry.Entry.{Entry}
use Rattle.world.specs.declared.entry.Entry.TheVariants as made
use Rattle.world.specs.declared.read_file.ReadFile.TheVariants as found
use Rattle.world.specs.Counts.{Counts}
use Rattle.world.specs.Parts.{Part, OnDisk, OnWire, OnKids, OnRand, OnSay}
use Rattle.world.specs.Places.{time}
use Rattle.world.specs.Rises.{clipped}
use Rattle.world.specs.Waits.{wait_count}

-- a call failed
abbrev pub is_failed : Did → Bool
is_failed Done = false
is_failed Failed = true

-- the entry is of a failed call of this part of the world
abbrev pub is_fault : Part → Entry → Bool
is_fault OnDisk (made.Read path most found.Failed) = true
is_fault OnDisk (made.Created path did) = is_failed did
is_fault OnDisk (made.Wrote path bytes did) = is_failed did
is_fault OnDisk (made.Synced path did) = is_failed did
is_fault OnDisk (made.Renamed from to did) = is_failed did
is_fault OnDisk (made.DirSynced dir did) = is_failed did
is_fault OnDisk (made.Removed path did) = is_failed did
is_fault OnWire (made.Ports job None) = true
is_fault OnWire (made.Connected conn number connected.Failed) = true
is_fault OnWire (made.ReadFailed conn) = true
is_fault OnWire (made.PutFailed conn) = true
is_fault OnWire (made.Waited ms reports did) = is_failed did
is_fault OnKids (made.Started job argv env dir did) = is_failed did
is_fault OnRand (made.Word None) = true
is_fault OnSay (made.Said bytes did) = is_failed did
-- no other entry is of a failed call
is_fault part entry = false

-- how many entries of the journal are of failed calls of this part of the world
abbrev pub fault_count : Part → List Entry → ℕ
fault_count part [] = 0
fault_count part (entry ∷ past) =
    if is_fault part entry then fault_count part past + 1 else fault_count part past

-- the counts of a world that has made exactly the calls of this journal
abbrev pub counts_in : List Entry → Counts
counts_in past = record {
  disk = clipped (fault_count OnDisk past);
  net = clipped (fault_count OnWire past);
  waits = clipped (wait_count past);
  child = clipped (fault_count OnKids past);
  rand = clipped (fault_count OnRand past);
  say = clipped (fault_count OnSay past);
  last = time past;
}
