-- Files that are read whole.
use Rattle.std.specs.Prelude.{ℕ, List, Option, Some, None, length, nat_le, if◌then◌else◌}

-- the bytes of a file, and none where they are more than so many
abbrev pub found_within : ℕ → List ℕ → Option (List ℕ)
found_within most bytes = if nat_le (length bytes) most then Some bytes else None
