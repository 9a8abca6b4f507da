-- What holds between the start and the end of a run.
use Rattle.std.specs.Prelude.{◌≡◌, ◌<◌, List, [], Option}
use Rattle.world.specs.declared.entry.Entry.{Entry}
use Rattle.world.specs.Counts.{Counts, Rose}
use Rattle.world.specs.Told.{Between}

-- the journal was empty at the start, and this holds of it at the end
abbrev pub FromStart : {W : Type 0} → (W → Option (List Entry)) → W → W → (List Entry → Type 0) → Type 0
FromStart journal old new P = Between journal old new (λ before after. before ≡ [] → P after)

-- the count of failed calls of the disk rose
abbrev pub DiskRose : {W : Type 0} → (W → Counts) → W → W → Type 0
DiskRose counts old new = Rose (counts old).disk (counts new).disk

-- the count of failed says rose
abbrev pub SayRose : {W : Type 0} → (W → Counts) → W → W → Type 0
SayRose counts old new = Rose (counts old).say (counts new).say

-- a say has failed
abbrev pub SayFailed : {W : Type 0} → (W → Counts) → W → Type 0
SayFailed counts w = 0 < (counts w).say
