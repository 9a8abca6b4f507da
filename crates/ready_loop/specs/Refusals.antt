-- When the world turns a connection away. A journal has its newest entry first.
use Rattle.std.specs.Prelude.{List, [], ◌∷◌}
use Rattle.world.specs.declared.entry.Entry.{Entry}
use Rattle.world.specs.declared.entry.Entry.TheVariants as made
use Rattle.world.specs.Places.{IsUnused, place_of}

-- Where the newest entry turns a connection away, no byte has passed on it since it was last begun.
abbrev pub RefusesUnused : List Entry → Type 0
RefusesUnused [] = ⊥
RefusesUnused (made.Refused conn by ∷ past) = IsUnused (place_of conn) past
RefusesUnused (_ ∷ past) = Unit {0}
