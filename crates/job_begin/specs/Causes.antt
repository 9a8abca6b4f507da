-- Why a job ends before its kernel runs.
use Rattle.std.specs.Prelude.{◌≡◌, ◌⊎◌, ℕ}
use Rattle.world.specs.Counts.{Counts, Rose}

-- A status that tells of a failed call comes only where the count of such calls rose: 3 of a read, 6 of a random word or the
-- child's start, 10 of a call of the disk, 14 of one of the network.
pub record HasCause (old new : Counts) (status : ℕ) : Type 0 where
  pub read : status ≡ 3 → Rose old.disk new.disk
  pub start : status ≡ 6 → (Rose old.rand new.rand) ⊎ (Rose old.child new.child)
  pub save : status ≡ 10 → Rose old.disk new.disk
  pub net : status ≡ 14 → Rose old.net new.net
