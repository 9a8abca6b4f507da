-- What a store in memory keeps, does and answers: files, what is said, and which calls fail.
use Rattle.std.specs.Prelude.{◌≡◌, ◌==◌, ℕ, ◌-◌, ◌^◌, ◌<◌, ◌≤◌, ◌||◌, min, List, [], ◌++◌, length, Bool, true, false, not, Option, Some, None, is_some, option_map, IsSomeAnd, if◌then◌else◌}
use Rattle.std.specs.List.{list_any}
use Rattle.world.specs.declared.did.Did.{Did}
use Rattle.world.specs.declared.did.Did.TheVariants as did
use Rattle.world.specs.declared.wrote.Wrote.{Wrote}
use Rattle.world.specs.declared.wrote.Wrote.TheVariants as wrote
use Rattle.world.specs.declared.read_file.ReadFile.{ReadFile}
use Rattle.world.specs.declared.read_file.ReadFile.TheVariants as found
use Rattle.world.specs.Rises.{one_more}
use Rattle.world_mem.specs.declared.store.Store.{Store}
use Rattle.world_mem.specs.Folder.{file_at, has_file, Sets, Moves, Content}

-- the files of the store
abbrev pub files_of : Store → Content
files_of store = store.folder.files.items

-- the number of the next call is among those that fail
abbrev pub is_to_fail : Store → Bool
is_to_fail store = list_any (λ n. n == store.calls) store.fails

-- no further call of the disk is let through
abbrev pub is_spent : Option ℕ → Bool
is_spent None = false
is_spent (Some n) = n == 0

-- the next call is to fail, or it is one of the disk and the fuse is spent
abbrev pub fails_on_disk : Store → Bool
fails_on_disk store = is_to_fail store || is_spent store.fuse

-- that, or no file is there
abbrev pub fails_without : Store → List ℕ → Bool
fails_without store path = fails_on_disk store || not (has_file path (files_of store))

-- a count of faults after a call: it has risen exactly where the call failed
abbrev pub faults_after : Did → ℕ → ℕ
faults_after did.Done faults = faults
faults_after did.Failed faults = one_more faults

-- what holds where a call was done, and what where it failed
abbrev pub Outcome : Did → Type 0 → Type 0 → Type 0
Outcome did.Done done failed = done
Outcome did.Failed done failed = failed

-- the answer of a call that fails exactly so
abbrev pub did_unless : Bool → Did
did_unless true = did.Failed
did_unless false = did.Done

-- a call fails exactly where it has this cause, or memory was refused in it, which is counted
abbrev pub FailsOrStarves : Bool → Store → Store → Did → Type 0
FailsOrStarves cause old new did = Outcome did
    ((cause ≡ false) × (new.starved ≡ old.starved))
    (new.starved ≡ (if cause then old.starved else one_more old.starved))

-- a create makes an empty file or empties the one that is there, or it fails and changes no file
abbrev pub Creates : Store → Store → List ℕ → Did → Type 0
Creates old new path did = Outcome did
    (Sets (files_of old) (files_of new) path (Some []))
    (files_of new ≡ files_of old)

-- a write puts bytes at the end of a file that is there, or it fails and changes no file
abbrev pub Appends : Store → Store → List ℕ → List ℕ → Did → Type 0
Appends old new path bytes did = Outcome did
    ((has_file path (files_of old) ≡ true)
    × Sets (files_of old) (files_of new) path (option_map (λ was. was ++ bytes) (file_at path (files_of old))))
    (files_of new ≡ files_of old)

-- a rename gives a file that is there another name, or it fails and changes no file
abbrev pub Renames : Store → Store → List ℕ → List ℕ → Did → Type 0
Renames old new from to did = Outcome did
    ((has_file from (files_of old) ≡ true) × Moves (files_of old) (files_of new) from to)
    (files_of new ≡ files_of old)

-- a remove takes a file away, or it fails and changes no file
abbrev pub Removes : Store → Store → List ℕ → Did → Type 0
Removes old new path did = Outcome did (Sets (files_of old) (files_of new) path None) (files_of new ≡ files_of old)

-- bytes are said behind the others, or the call fails and nothing is said
abbrev pub Says : Store → Store → List ℕ → Did → Type 0
Says old new bytes did = Outcome did (new.said ≡ old.said ++ bytes) (new.said ≡ old.said)

-- a call was counted, and changed nothing else
abbrev pub AfterCall : Store → Store → Type 0
AfterCall old new = new ≡ record old { calls = one_more old.calls }

-- the fuse after a call of the disk
abbrev pub burnt : Option ℕ → Option ℕ
burnt fuse = option_map (λ n. n - 1) fuse

-- a call of the disk was counted, and changed nothing but the fuse
abbrev pub AfterTry : Store → Store → Type 0
AfterTry old new = new ≡ record old { calls = one_more old.calls; fuse = burnt old.fuse }

-- a call that may change files was counted, and changed nothing else but the fuse
abbrev pub AfterChange : Store → Store → Type 0
AfterChange old new = new ≡ record old {
  folder = new.folder;
  calls = one_more old.calls;
  fuse = burnt old.fuse;
  starved = new.starved;
}

-- a call of the disk was counted, and changed nothing but the files, the fuse and the counts
abbrev pub AfterDisk : Store → Store → Did → Type 0
AfterDisk old new did = new ≡ record old {
  folder = new.folder;
  calls = one_more old.calls;
  fuse = burnt old.fuse;
  disk_faults = faults_after did old.disk_faults;
  starved = new.starved;
}

-- a call of the disk that changes no file was counted, and changed nothing but the fuse and the count of faults
abbrev pub AfterLook : Store → Store → Did → Type 0
AfterLook old new did = new ≡ record old {
  calls = one_more old.calls;
  fuse = burnt old.fuse;
  disk_faults = faults_after did old.disk_faults;
}

-- a call of what is said was counted, and changed nothing but what was said and the counts
abbrev pub AfterSay : Store → Store → Did → Type 0
AfterSay old new did = new ≡ record old {
  said = new.said;
  calls = one_more old.calls;
  say_faults = faults_after did old.say_faults;
  starved = new.starved;
}

-- the whole piece was taken, as far as its length can be told
abbrev pub TookAll : Wrote → List ℕ → Type 0
TookAll (wrote.Took n) piece = n ≡ min (length piece) (2 ^ 32 - 1)
TookAll wrote.Failed piece = Unit {0}

-- what a read answers of a file that may be there, where it fails or not
abbrev pub FoundAs : Bool → Option (List ℕ) → ℕ → ReadFile → Type 0
FoundAs fails file most (found.Whole bytes) = (fails ≡ false) × (file ≡ Some bytes) × (length bytes ≤ most)
FoundAs fails file most found.Big = (fails ≡ false) × IsSomeAnd file (λ bytes. most < length bytes)
FoundAs fails file most found.Failed = (fails || not (is_some file)) ≡ true
FoundAs fails file most found.NoMemory = (fails ≡ false) × IsSomeAnd file (λ bytes. length bytes ≤ most)

-- whether a read failed
abbrev pub did_find : ReadFile → Did
did_find (found.Whole bytes) = did.Done
did_find found.Big = did.Done
did_find found.Failed = did.Failed
did_find found.NoMemory = did.Done
