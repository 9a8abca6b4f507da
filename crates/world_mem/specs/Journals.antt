-- A journal that is kept as data.
use Rattle.std.specs.Prelude.{◌≡◌, ℕ, List, Option, Some, None, reverse}
use Rattle.world.specs.declared.entry.Entry.{Entry}
use Rattle.world.specs.Counts.{Counts}
use Rattle.world.specs.Faults.{counts_in}
use Rattle.world.specs.Places.{time}

-- a journal that is kept with its oldest entry first, as contracts have it
abbrev pub told_of : Option (List Entry) → Option (List Entry)
told_of None = None
told_of (Some entries) = Some (reverse entries)

-- the journal's last moment, and this one where it is no longer told
abbrev pub time_told : Option (List Entry) → ℕ → ℕ
time_told None moment = moment
time_told (Some past) moment = time past

-- the counts that the journal gives, and these where it is no longer told
abbrev pub counts_told : Option (List Entry) → Counts → Counts
counts_told None counts = counts
counts_told (Some past) counts = counts_in past

-- these are the counts that the journal gives, where it is told
abbrev pub AreCounted : Option (List Entry) → Counts → Type 0
AreCounted journal counts = counts_told journal counts ≡ counts
