-- What is said, by the journal, its newest entry first.
use Rattle.std.specs.Prelude.{◌≡◌, ℕ, List, [], ◌∷◌, ◌++◌, take, drop}
use Rattle.world.specs.declared.entry.Entry.{Entry}
use Rattle.world.specs.declared.entry.Entry.TheVariants as made
use Rattle.world.specs.declared.did.Did.TheVariants.{Done, Failed}

-- ---- the entries

-- pieces of the text that were said, up to this rest of it
pub data Speech (text : List ℕ) (before : List Entry) : List ℕ → List Entry → Type 0 where
  none : Speech text before text before
  more : {rest : List ℕ} {past : List Entry} (n : ℕ) → Speech text before rest past → Speech text before (drop n rest) (made.Said (take n rest) Done ∷ past)

-- the text was said; or saying failed, and nothing was said after that
pub data Says (text : List ℕ) (failed : Type 0) (before : List Entry) : List Entry → Type 0 where
  whole : {after : List Entry} → Speech text before [] after → Says text failed before after
  cut : {rest : List ℕ} {after : List Entry} → failed → Speech text before rest after → Says text failed before after
  refused : {rest : List ℕ} {past : List Entry} → failed → Speech text before rest past → Says text failed before (made.Said rest Failed ∷ past)

-- ---- what is heard

-- all bytes that were said
abbrev pub heard : List Entry → List ℕ
heard [] = []
heard (made.Said bytes Done ∷ past) = heard past ++ bytes
heard (entry ∷ past) = heard past

-- a front of the text
pub record IsFront (front text : List ℕ) : Type 0 where
  pub rest : List ℕ
  pub whole : front ++ rest ≡ text
