-- What each call adds to the journal, by its answer.
use Rattle.std.specs.Prelude.{ℕ, ◌≤◌, ◌<◌, List, length, take, slice_get, Option}
use Rattle.std.proofs.Common.{◌≢◌}
use Rattle.world.specs.declared.entry.Entry.{Entry}
use Rattle.world.specs.declared.entry.Entry.TheVariants as made
use Rattle.world.specs.declared.conn.Conn.{Conn}
use Rattle.world.specs.declared.side.Side.TheVariants as side
use Rattle.world.specs.declared.wrote.Wrote.{Wrote}
use Rattle.world.specs.declared.wrote.Wrote.TheVariants.{Took, Failed}
use Rattle.world.specs.declared.did.Did.{Did}
use Rattle.world.specs.declared.did.Did.TheVariants as did
use Rattle.world.specs.declared.got.Got.{Got}
use Rattle.world.specs.declared.got.Got.TheVariants as got
use Rattle.world.specs.declared.put.Put.{Put}
use Rattle.world.specs.declared.put.Put.TheVariants as put
use Rattle.world.specs.declared.read_file.ReadFile.{ReadFile}
use Rattle.world.specs.declared.read_file.ReadFile.TheVariants as found
use Rattle.world.specs.Moments.{Told}
pub use Rattle.world.specs.Moments.{Tells}

-- where a world tells its journal after calls, it told it before them, and the two are related so
abbrev pub Between : {W : Type 0} → (W → Option (List Entry)) → W → W → (List Entry → List Entry → Type 0) → Type 0
Between journal old new R = Told (journal old) (journal new) R

-- where a world tells its journal after a call, it told it before, and has this one entry more
abbrev pub Adds : {W : Type 0} → (W → Option (List Entry)) → W → W → Entry → Type 0
Adds journal old new entry = Tells (journal old) (journal new) entry

-- the bytes that a write took, all of them where it failed
abbrev pub taken_of : Wrote → List ℕ → List ℕ
taken_of (Took n) piece = take n piece
taken_of Failed piece = piece

-- whether a write succeeded
abbrev pub did_of : Wrote → Did
did_of (Took n) = did.Done
did_of Failed = did.Failed

-- at least one byte was taken, and at most the whole piece
abbrev pub TookSome : Wrote → List ℕ → Type 0
TookSome (Took n) piece = (1 ≤ n) × (n ≤ length piece)
TookSome Failed piece = Unit {0}

-- the entry of a read, by the room, the answer and what the buffer then has
abbrev pub read_entry : Conn → ℕ → Got → List ℕ → Entry
read_entry conn room (got.Piece n) buffer = made.Got conn room (take n buffer)
read_entry conn room got.Dry buffer = made.Dry conn
read_entry conn room got.Ended buffer = made.Ended conn side.Read
read_entry conn room got.Refused buffer = made.Refused conn side.Read
read_entry conn room got.Failed buffer = made.ReadFailed conn

-- at least one byte was got, and at most what the buffer holds
abbrev pub GotSome : Got → ℕ → Type 0
GotSome (got.Piece n) room = (1 ≤ n) × (n ≤ room)
GotSome got.Dry room = Unit {0}
GotSome got.Ended room = Unit {0}
GotSome got.Refused room = Unit {0}
GotSome got.Failed room = Unit {0}

-- the entry of a write, by the answer and the piece
abbrev pub write_entry : Conn → Put → List ℕ → Entry
write_entry conn (put.Took n) piece = made.Put conn (take n piece)
write_entry conn put.Stuck piece = made.Stuck conn
write_entry conn put.Ended piece = made.Ended conn side.Write
write_entry conn put.Refused piece = made.Refused conn side.Write
write_entry conn put.Failed piece = made.PutFailed conn

-- at least one byte was taken, and at most the whole piece
abbrev pub PutSome : Put → ℕ → Type 0
PutSome (put.Took n) size = (1 ≤ n) × (n ≤ size)
PutSome put.Stuck size = Unit {0}
PutSome put.Ended size = Unit {0}
PutSome put.Refused size = Unit {0}
PutSome put.Failed size = Unit {0}

-- a file that was read has at most so many bytes
abbrev pub FoundWithin : ReadFile → ℕ → Type 0
FoundWithin (found.Whole bytes) most = length bytes ≤ most
FoundWithin found.Big most = Unit {0}
FoundWithin found.Failed most = Unit {0}
FoundWithin found.NoMemory most = Unit {0}

-- no two of the ports are the same
abbrev pub AreDifferent : List ℕ → Type 0
AreDifferent ports = (i j : ℕ) → i < j → j < length ports → slice_get ports i ≢ slice_get ports j
