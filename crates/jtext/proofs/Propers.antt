-- Trees that have a text: numbers are numbers, texts are UTF-8, and no key stands twice in an object.
use Rattle.std.proofs.Common.{ℕ, Bool, List, [], ◌∷◌, refl}
use Rattle.std.specs.Str.{IsUtf8}
use Rattle.jtext.specs.Number.{IsNumber}
use Rattle.jtext.specs.Grammar.{Distinct}
use Rattle.jtext.specs.declared.json.Json.{Json}
use Rattle.jtext.specs.declared.json.Json.TheVariants as json
use Rattle.jtext.specs.Keyed.{Keyed, AllKeyed, PairsKeyed}
use Rattle.jtext.specs.Sound as sound
use Rattle.jtext.specs.Sound.{Sound, AllSound, PairsSound}
use Rattle.jtext.proofs.Trees.{items_keyed, pairs_keyed, first_keyed, pair_keyed}

mutual
  pub data Proper : Json → Type 0 where
    null : Proper json.Null
    boolean : (b : Bool) → Proper (json.Bool b)
    number : (s : List ℕ) → IsNumber s → Proper (json.Num s)
    text : (s : List ℕ) → IsUtf8 s → Proper (json.Str s)
    array : (xs : List Json) → AllProper xs → Proper (json.Arr xs)
    object : (ps : List (List ℕ × Json)) → PairsProper ps → Distinct ps → Proper (json.Obj ps)

  pub data AllProper : List Json → Type 0 where
    none : AllProper []
    more : (x : Json) (xs : List Json) → Proper x → AllProper xs → AllProper (x ∷ xs)

  pub data PairsProper : List (List ℕ × Json) → Type 0 where
    no_pairs : PairsProper []
    pair : (key : List ℕ) (value : Json) (ps : List (List ℕ × Json)) → IsUtf8 key → Proper value → PairsProper ps → PairsProper ((key, value) ∷ ps)

mutual
  pub proper_of : (t : Json) → Sound t → Keyed t → Proper t
  proper_of _ sound.null k = null
  proper_of _ (sound.boolean b) k = boolean b
  proper_of _ (sound.number s is) k = number s is
  proper_of _ (sound.text s u) k = text s u
  proper_of _ (sound.array xs all) k = array xs (all_proper xs all (items_keyed (json.Arr xs) xs k refl))
  proper_of _ (sound.object ps all) k = let (pairs, d) = pairs_keyed (json.Obj ps) ps k refl in object ps (pairs_proper ps all pairs) d

  all_proper : (xs : List Json) → AllSound xs → AllKeyed xs → AllProper xs
  all_proper _ sound.none k = none
  all_proper _ (sound.more x xs s all) k = let (here, rest) = first_keyed x xs k in more x xs (proper_of x s here) (all_proper xs all rest)

  pairs_proper : (ps : List (List ℕ × Json)) → PairsSound ps → PairsKeyed ps → PairsProper ps
  pairs_proper _ sound.no_pairs k = no_pairs
  pairs_proper _ (sound.pair key value ps u s all) k = let (here, rest) = pair_keyed (key, value) ps k in pair key value ps u (proper_of value s here) (pairs_proper ps all rest)
