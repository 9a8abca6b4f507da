-- The random words that are drawn for a session, by their entries, the newest first.
use Rattle.std.specs.Prelude.{◌≡◌, ◌<◌, ℕ, List, ◌∷◌, ◌++◌, length, map, Option, Some, None}
use Rattle.world.specs.declared.entry.Entry.{Entry}
use Rattle.world.specs.declared.entry.Entry.TheVariants.{Word}
use Rattle.kernel_start.specs.declared.random_words.RandomPairs.{RandomPairs}

-- these words were drawn, the last one first
abbrev pub words_drawn : List ℕ → List Entry → List Entry
words_drawn words before = map (λ word. Word (Some word)) words ++ before

-- fewer than so many words were drawn, and the next one could not be had
pub record DrawFails (most : ℕ) (before after : List Entry) : Type 0 where
  pub words : List ℕ
  pub few : length words < most
  pub ends : after ≡ Word None ∷ words_drawn words before

-- two words were drawn, by the answer
abbrev pub DrawsPair : Option (ℕ × ℕ) → List Entry → List Entry → Type 0
DrawsPair (Some pair) before after = after ≡ Word (Some pair.1) ∷ Word (Some pair.0) ∷ before
DrawsPair None before after = DrawFails 2 before after

-- the four words of a session were drawn, by the answer
abbrev pub Draws : Option RandomPairs → List Entry → List Entry → Type 0
Draws (Some pairs) before after =
    after ≡ Word (Some pairs.key.1) ∷ Word (Some pairs.key.0) ∷ Word (Some pairs.name.1) ∷ Word (Some pairs.name.0) ∷ before
Draws None before after = DrawFails 4 before after
