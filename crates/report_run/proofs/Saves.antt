-- What a save leaves at its output, and with which entry a journal began.
use Rattle.std.proofs.Common.{◌≡◌, ℕ, List, [], ◌∷◌, ◌++◌, Ok, ap}
use Rattle.world.specs.declared.entry.Entry.{Entry}
use Rattle.world.specs.declared.left.Left.TheVariants as left
use Rattle.world.specs.Disk.{Place, leaves}
use Rattle.world.specs.Moments.{Since, start, more as later}
use Rattle.world.specs.Parts.{Part, IsOf}
use Rattle.save_disk.specs.Entries.{SaveOf}
use Rattle.save_disk.proofs.Laws.{end_of}

pub leaves_text : (output text : List ℕ) (before after : List Entry) → SaveOf {U = Unit {0}} output text (Ok tt) before after
    → leaves after output ≡ left.Whole text ∷ []
leaves_text output text before after save = ap (λ p. Place.options p) (end_of {U = Unit {0}} output text before (Ok tt) after save).place_is

-- the journal ends with the entry that came first
pub record EndsWith (entry : Entry) (journal : List Entry) : Type 0 where
  pub later_entries : List Entry
  pub split : journal ≡ later_entries ++ entry ∷ []

-- so does a longer one
ends_later : {entry : Entry} {journal : List Entry} (newest : Entry) → EndsWith entry journal → EndsWith entry (newest ∷ journal)
ends_later newest e = record { later_entries = newest ∷ e.later_entries; split = ap (λ xs. newest ∷ xs) e.split }

pub ends_since : {part : Part} {entry : Entry} {before after : List Entry} → EndsWith entry before → Since (IsOf part) before after → EndsWith entry after
ends_since e start = e
ends_since e (later {past} {entry} since is) = ends_later entry (ends_since e since)
