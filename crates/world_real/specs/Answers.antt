-- What the world answers where a call of the system ended so, by POSIX.1-2017's errors of that call.
use Rattle.std.specs.Prelude.{ℕ, ◌==◌, List, Bool, true, false, Option, Some, None, Result, Ok, Err, if◌then◌else◌}
use Rattle.std.specs.IoError.{error_kind}
use Rattle.std.specs.declared.io.ErrorKind.{ErrorKind}
use Rattle.std.specs.declared.io.ErrorKind.TheVariants as kind
use Rattle.std.specs.declared.io.Error.{Error}
use Rattle.world.specs.declared.did.Did.{Did}
use Rattle.world.specs.declared.did.Did.TheVariants as did
use Rattle.world.specs.declared.wrote.Wrote.{Wrote}
use Rattle.world.specs.declared.wrote.Wrote.TheVariants as wrote
use Rattle.world.specs.declared.got.Got.{Got}
use Rattle.world.specs.declared.got.Got.TheVariants as got
use Rattle.world.specs.declared.put.Put.{Put}
use Rattle.world.specs.declared.put.Put.TheVariants as put
use Rattle.world.specs.declared.connected.Connected.{Connected}
use Rattle.world.specs.declared.connected.Connected.TheVariants as connected
use Rattle.world.specs.declared.read_file.ReadFile.{ReadFile}
use Rattle.world.specs.declared.read_file.ReadFile.TheVariants as found
use Rattle.world.specs.Rises.{one_more}
use Rattle.world_real.specs.declared.trouble.Trouble.{Trouble}
use Rattle.world_real.specs.declared.trouble.Trouble.TheVariants as trouble

-- ---- counts

-- a count of faults after a call: each error counts
abbrev pub count_after : {T E : Type 0} → Result T E → ℕ → ℕ
count_after (Ok value) count = count
count_after (Err error) count = one_more count

-- ---- calls that did what was asked or failed

-- a call is done exactly where the system had no error
abbrev pub did_of : {T E : Type 0} → Result T E → Did
did_of (Ok value) = did.Done
did_of (Err error) = did.Failed

-- a write took so many bytes of a piece; to take none is a failure
abbrev pub wrote_of : {E : Type 0} → Result ℕ E → Wrote
wrote_of (Ok n) = if n == 0 then wrote.Failed else wrote.Took n
wrote_of (Err error) = wrote.Failed

-- the count of faults after a write
abbrev pub count_after_write : {E : Type 0} → Result ℕ E → ℕ → ℕ
count_after_write (Ok n) count = if n == 0 then one_more count else count
count_after_write (Err error) count = one_more count

-- ---- connections

-- the trouble that an error of `recv`, `send` or `connect` tells of
abbrev pub trouble_of : ErrorKind → Trouble
trouble_of kind.WouldBlock = trouble.Later
trouble_of kind.ConnectionRefused = trouble.TurnedAway
trouble_of kind.ConnectionReset = trouble.Broken
trouble_of kind.BrokenPipe = trouble.Broken
trouble_of _ = trouble.Unknown

-- a read in trouble; only a connection on which no byte has passed is refused
abbrev pub got_in : Trouble → Bool → Got
got_in trouble.Later used = got.Dry
got_in trouble.TurnedAway used = if used then got.Failed else got.Refused
got_in trouble.Broken used = got.Ended
got_in trouble.Unknown used = got.Failed

-- a read: so many bytes were got, and none at the end of what the other side sent
abbrev pub got_of : Bool → Result ℕ Error → Got
got_of used (Ok n) = if n == 0 then got.Ended else got.Piece n
got_of used (Err error) = got_in (trouble_of (error_kind error)) used

-- a write in trouble
abbrev pub put_in : Trouble → Bool → Put
put_in trouble.Later used = put.Stuck
put_in trouble.TurnedAway used = if used then put.Failed else put.Refused
put_in trouble.Broken used = put.Ended
put_in trouble.Unknown used = put.Failed

-- a write: so many bytes were taken; to take none is a failure
abbrev pub put_of : Bool → Result ℕ Error → Put
put_of used (Ok n) = if n == 0 then put.Failed else put.Took n
put_of used (Err error) = put_in (trouble_of (error_kind error)) used

-- a begin of a connection in trouble
abbrev pub begun_in : Trouble → Connected
begun_in trouble.TurnedAway = connected.Refused
begun_in _ = connected.Failed

-- a begin of a connection
abbrev pub connected_of : {T : Type 0} → Result T Error → Connected
connected_of (Ok value) = connected.Begun
connected_of (Err error) = begun_in (trouble_of (error_kind error))

-- the count of faults after a connection wasn't begun: to be turned away is none
abbrev pub count_unbegun : Trouble → ℕ → ℕ
count_unbegun trouble.TurnedAway count = count
count_unbegun _ count = one_more count

-- the count of faults after a begin of a connection
abbrev pub count_after_connect : {T : Type 0} → Result T Error → ℕ → ℕ
count_after_connect (Ok value) count = count
count_after_connect (Err error) count = count_unbegun (trouble_of (error_kind error)) count

-- ---- files

-- a file that can't be read
abbrev pub unread : ErrorKind → ReadFile
unread kind.OutOfMemory = found.NoMemory
unread _ = found.Failed

-- the count of faults after a file couldn't be read: want of memory is none
abbrev pub count_unread : ErrorKind → ℕ → ℕ
count_unread kind.OutOfMemory count = count
count_unread _ count = one_more count

-- a whole file, or none where it has too many bytes; memory may be refused for them
abbrev pub found_of : Result (Option (List ℕ)) Error → ReadFile
found_of (Ok (Some bytes)) = found.Whole bytes
found_of (Ok None) = found.Big
found_of (Err error) = unread (error_kind error)

-- the count of faults after a read of a file
abbrev pub count_after_read : Result (Option (List ℕ)) Error → ℕ → ℕ
count_after_read (Ok value) count = count
count_after_read (Err error) count = count_unread (error_kind error) count

-- ---- what has passed

-- a read got bytes
abbrev pub has_got : Got → Bool
has_got (got.Piece n) = true
has_got _ = false

-- a write put bytes there
abbrev pub has_put : Put → Bool
has_put (put.Took n) = true
has_put _ = false
