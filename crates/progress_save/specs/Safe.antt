-- What a crash may leave of the output over several saves: the text that was acknowledged last, or the next one.
use Rattle.std.specs.Prelude.{◌≡◌, ◌⊎◌, ℕ, zero, suc, ◌+◌, List, Some, slice_get, IsSomeAnd, Result, OnOk}
use Rattle.world.specs.declared.entry.Entry.{Entry}
use Rattle.world.specs.declared.left.Left.{Left}
use Rattle.world.specs.declared.left.Left.TheVariants.{Old, Whole, Absent, Any}
use Rattle.world.specs.Disk.{Place, Among, place}
use Rattle.world.specs.Moments.{Since}
use Rattle.save_disk.specs.Places.{save_count}

-- it is the text of this number of these, counted from 1; number 0 is what was there before
abbrev pub IsText : List (List ℕ) → ℕ → Left → Type 0
IsText texts zero o = o ≡ Old
IsText texts (suc n) o = IsSomeAnd (slice_get texts n) (λ text. o ≡ Whole text)

-- it is the text of this number, or the next one
abbrev pub IsLastOrNext : List (List ℕ) → ℕ → Left → Type 0
IsLastOrNext texts count o = IsText texts count o ⊎ IsText texts (count + 1) o

-- Each option of a path passes this test. So does the file that its name stands for now, where that is known to be one: a
-- sync of its folder for another file would leave that alone.
pub record IsPlace (Test : Left → Type 0) (p : Place) : Type 0 where
  pub options : (o : Left) → Among o p.options → Test o
  pub here : (o : Left) → p.here ≡ Some o → Test o ⊎ ((o ≡ Absent) ⊎ (o ≡ Any))

-- at this moment a crash leaves at the output the text that was acknowledged last, or the next one
abbrev pub IsSafe : List ℕ → List (List ℕ) → List Entry → Type 0
IsSafe output texts now = IsPlace (IsLastOrNext texts (save_count output now)) (place now output)

-- at this moment a crash leaves at the output the text that was acknowledged last
abbrev pub IsHeld : List ℕ → List (List ℕ) → List Entry → Type 0
IsHeld output texts now = IsPlace (IsText texts (save_count output now)) (place now output)

-- the text is the one after those that were acknowledged
abbrev pub IsNext : List ℕ → List (List ℕ) → List ℕ → List Entry → Type 0
IsNext output texts text now = slice_get texts (save_count output now) ≡ Some text

-- Where the output was safe and this text is the next one, it is safe at each moment of a save of the text with this
-- answer and after it, and holds the text after `Ok`.
pub record StaysSafe {U E : Type 0} (output : List ℕ) (texts : List (List ℕ)) (result : Result U E) (before after : List Entry) : Type 0 where
  pub moments : Since (IsSafe output texts) before after
  pub end : IsSafe output texts after
  pub done : OnOk result (IsHeld output texts after)
