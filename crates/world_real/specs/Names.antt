-- What stands under a name, and what may be done there (POSIX.1-2017, `stat`, `lstat`, `rename`, and flock(2)).
use Rattle.std.specs.Prelude.{◌≡◌, Result, Ok, Err}
use Rattle.std.specs.IoError.{error_kind}
use Rattle.std.specs.Fs.{file_type, IsFile}
use Rattle.std.specs.declared.io.ErrorKind.TheVariants as kind
use Rattle.std.specs.declared.io.Error.{Error}
use Rattle.std.specs.declared.fs.Metadata.{Metadata}
use Rattle.std.specs.declared.fs.TryLockError.{TryLockError}
use Rattle.std.specs.declared.fs.TryLockError.TheVariants as locked
use Rattle.world_real.specs.declared.file_id.FileId.{FileId}
use Rattle.world_real.specs.declared.standing.Standing.{Standing}
use Rattle.world_real.specs.declared.standing.Standing.TheVariants as standing

-- what stands under a name of which the system found these data: a regular file exactly where they are those of one
abbrev pub StandsFound : Metadata → Result Standing Error → Type 0
StandsFound found (Ok (standing.Regular file)) = IsFile (file_type found)
StandsFound found (Ok standing.Other) = IsFile (file_type found) → ⊥
StandsFound found (Ok standing.Nothing) = ⊥
StandsFound found (Err error) = ⊥

-- what stands under a name of which the system had this error: nothing where there is no such file; any other error is told on
abbrev pub StandsUnfound : Error → Result Standing Error → Type 0
StandsUnfound error (Ok standing.Nothing) = error_kind error ≡ kind.NotFound
StandsUnfound error (Ok (standing.Regular file)) = ⊥
StandsUnfound error (Ok standing.Other) = ⊥
StandsUnfound error (Err told) = (told ≡ error) × (error_kind error ≡ kind.NotFound → ⊥)

-- a file of ours may be renamed where its name is its own still and its new name leads to nothing or to a regular file
pub record MayRename (ours : FileId) (from to : Standing) : Type 0 where
  pub own : from ≡ standing.Regular ours
  pub replaceable : to ≡ standing.Other → ⊥

-- a try for a lock found that another process holds it; a disk that knows no locks holds none
abbrev pub IsHeldElsewhere : Result Unit TryLockError → Type 0
IsHeldElsewhere tried = tried ≡ Err locked.WouldBlock
