-- What the entries of random words leave as it was.
use Rattle.std.proofs.Common.{◌≡◌, ℕ, ◌+◌, List, [], ◌∷◌, ◌++◌, length, Option, Some, None, refl, sym, ◌∙◌, ap, subst, arith}
use Rattle.world.specs.declared.entry.Entry.{Entry}
use Rattle.world.specs.declared.entry.Entry.TheVariants.{Word}
use Rattle.world.specs.Moments.{Since, start, more}
use Rattle.world.specs.Parts.{IsOf, OnRand}
use Rattle.world.specs.Touched.{Spares}
use Rattle.kernel_start.specs.declared.random_words.RandomPairs.{RandomPairs}
use Rattle.kernel_start.specs.RandomWords.{words_drawn, DrawFails, Draws, DrawsPair}

-- a second word could not be had
pub second_fails : (word : ℕ) (x y z : List Entry) → y ≡ Word (Some word) ∷ x → z ≡ Word None ∷ y → DrawFails 2 x z
second_fails word x y z drawn failed =
    record { words = word ∷ []; few = omega arith; ends = failed ∙ ap (λ past. Word None ∷ past) drawn }

append_two : (words : List ℕ) (a b : ℕ) (before : List Entry)
    → words_drawn (words ++ b ∷ a ∷ []) before ≡ words_drawn words (Word (Some b) ∷ Word (Some a) ∷ before)
append_two [] a b before = refl
append_two (w ∷ words) a b before = ap (λ past. Word (Some w) ∷ past) (append_two words a b before)

length_two : (words : List ℕ) (a b : ℕ) → length (words ++ b ∷ a ∷ []) ≡ length words + 2
length_two [] a b = refl
length_two (w ∷ words) a b = omega (arith, length_two words a b)

-- the name's words were drawn, and then one of the key's could not be had
pub key_fails : (name : ℕ × ℕ) (before past after : List Entry) → DrawsPair (Some name) before past → DrawFails 2 past after → DrawFails 4 before after
key_fails name before past after drawn fails = record {
  words = fails.words ++ name.1 ∷ name.0 ∷ [];
  few = omega (arith, length_two fails.words name.0 name.1, fails.few);
  ends = fails.ends ∙ ap (λ x. Word None ∷ words_drawn fails.words x) drawn ∙ ap (λ x. Word None ∷ x) (sym (append_two fails.words name.0 name.1 before));
}

module _ (P : List Entry → Type 0) (on_word : (word : Option ℕ) (past : List Entry) → P (Word word ∷ past)) (before : List Entry) where
  each_word : (words : List ℕ) → Since P before (words_drawn words before)
  each_word [] = start
  each_word (w ∷ words) = more (each_word words) (on_word (Some w) _)

  each_draw : (result : Option RandomPairs) (after : List Entry) → Draws result before after → Since P before after
  each_draw (Some pairs) after e =
      subst (Since P before) (sym e) (each_word (pairs.key.1 ∷ pairs.key.0 ∷ pairs.name.1 ∷ pairs.name.0 ∷ []))
  each_draw None after fails = subst (Since P before) (sym fails.ends) (more (each_word fails.words) (on_word None _))

-- only the random source is asked
pub draws_part : (result : Option RandomPairs) (before after : List Entry) → Draws result before after → Since (IsOf OnRand) before after
draws_part result before = each_draw (IsOf OnRand) (λ w p. refl) before result

-- no path is touched
pub draws_spare : (path : List ℕ) (result : Option RandomPairs) (before after : List Entry) → Draws result before after → Since (Spares path) before after
draws_spare path result before = each_draw (Spares path) (λ w p. refl) before result
