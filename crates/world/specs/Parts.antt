-- Which part of the world made an entry.
use Rattle.std.specs.Prelude.{◌≡◌, List, [], ◌∷◌}
use Rattle.std.proofs.Common.{◌≢◌}
use Rattle.world.specs.declared.entry.Entry.{Entry}
use Rattle.world.specs.declared.entry.Entry.TheVariants.{
  Read,
  Created,
  Wrote,
  Synced,
  Renamed,
  DirSynced,
  Removed,
  Started,
  Looked,
  Killed,
  Moment,
  Word,
  Said,
}

-- the parts of the world that make entries
pub data Part : Type 0 where
  OnDisk : Part
  OnWire : Part
  OnKids : Part
  OnClock : Part
  OnRand : Part
  OnSay : Part

-- the part whose call made an entry
abbrev pub part_of : Entry → Part
part_of (Read path most found) = OnDisk
part_of (Created path did) = OnDisk
part_of (Wrote path bytes did) = OnDisk
part_of (Synced path did) = OnDisk
part_of (Renamed from to did) = OnDisk
part_of (DirSynced dir did) = OnDisk
part_of (Removed path did) = OnDisk
part_of (Started job argv env dir did) = OnKids
part_of (Looked job status) = OnKids
part_of (Killed job) = OnKids
part_of (Moment ms) = OnClock
part_of (Word word) = OnRand
part_of (Said bytes did) = OnSay
-- all others are of connections
part_of _ = OnWire

-- the newest entry is of this part
abbrev pub IsOf : Part → List Entry → Type 0
IsOf part [] = ⊥
IsOf part (entry ∷ past) = part_of entry ≡ part

-- the newest entry is of another part
abbrev pub IsNotOf : Part → List Entry → Type 0
IsNotOf part [] = ⊥
IsNotOf part (entry ∷ past) = part_of entry ≢ part
