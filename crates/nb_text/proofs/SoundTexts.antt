-- The indented text of a tree whose texts are UTF-8 and whose numbers are numbers, is UTF-8, at any margin of ASCII.
use Rattle.std.proofs.Common.{ℕ, List, [], ◌∷◌, ◌++◌, map, sym, subst, arith, codes}
use Rattle.std.proofs.lemmas.Str.{IsUtf8-append}
use Rattle.std.specs.List.{AllByRecursion}
use Rattle.std.specs.Str.{IsUtf8}
use Rattle.jtext.specs.declared.json.Json.{Json}
use Rattle.jtext.specs.declared.json.Json.TheVariants as json
use Rattle.jtext.specs.Indent.{on_line, further, member, indent, indent_items, indent_fields}
use Rattle.jtext.specs.Print.{quote}
use Rattle.jtext.specs.Sorting.{byte_order, by_key}
use Rattle.jtext.specs.Sound as sound
use Rattle.jtext.specs.Sound.{Sound, AllSound, PairsSound}
use Rattle.jtext.proofs.Indented.{indented-Null, indented-Bool, indented-Num, indented-Str, array_text, object_text, indented-none, indented-empty}
use Rattle.jtext.proofs.Sorts.{all-sort_by}
use Rattle.jtext.proofs.Utf8s.{Ascii, utf8_ascii, word_utf8, number_utf8, quoted_utf8, joined_utf8}
use Rattle.jtext.proofs.IndentedSpells.{further_ascii, line_utf8, lines_utf8}

abbrev Line : List ℕ → List ℕ × Json → List ℕ
Line m p = on_line m (member (p.0, indent p.1 m))

-- lines between two brackets
between_utf8 : (start close : ℕ) (inner m : List ℕ) → Ascii (start ∷ []) → Ascii (close ∷ []) → Ascii m → IsUtf8 inner → IsUtf8 (start ∷ (inner ++ on_line m (close ∷ [])))
between_utf8 start close inner m s c a u =
    IsUtf8-append (start ∷ []) (inner ++ on_line m (close ∷ [])) (utf8_ascii (start ∷ []) s) (IsUtf8-append inner (on_line m (close ∷ [])) u (line_utf8 m (close ∷ []) a (utf8_ascii (close ∷ []) c)))

array_utf8 : (xs : List Json) (m : List ℕ) → Ascii m → AllByRecursion (λ x. IsUtf8 (on_line (further m) (indent x (further m)))) xs → IsUtf8 (indent (json.Arr xs) m)
array_utf8 [] m a all = subst IsUtf8 (sym (indented-none m)) (utf8_ascii (91 ∷ 93 ∷ []) (omega arith, (omega arith, tt)))
array_utf8 (x ∷ xs) m a all =
    let F = λ (y : Json). on_line (further m) (indent y (further m)) in
    subst IsUtf8 (sym (array_text (x ∷ xs) m (omega arith)))
    (between_utf8 91 93 (indent_items (further m) (x ∷ xs)) m (omega arith, tt) (omega arith, tt) a (joined_utf8 (map F (x ∷ xs)) (lines_utf8 F (x ∷ xs) all)))

object_utf8 : (ps : List (List ℕ × Json)) (m : List ℕ) → Ascii m → AllByRecursion (λ p. IsUtf8 (Line (further m) p)) ps → IsUtf8 (indent (json.Obj ps) m)
object_utf8 [] m a all = subst IsUtf8 (sym (indented-empty m)) (utf8_ascii (123 ∷ 125 ∷ []) (omega arith, (omega arith, tt)))
object_utf8 (p ∷ ps) m a all =
    let qs = by_key (p ∷ ps) in
    subst IsUtf8 (sym (object_text (p ∷ ps) m (omega arith)))
    (between_utf8 123 125 (indent_fields (further m) qs) m (omega arith, tt) (omega arith, tt) a
    (joined_utf8 (map (Line (further m)) qs) (lines_utf8 (Line (further m)) qs (all-sort_by (λ x y. byte_order x.0 y.0) (λ q. IsUtf8 (Line (further m) q)) (p ∷ ps) all))))

mutual
  pub sound_utf8 : (t : Json) → Sound t → (m : List ℕ) → Ascii m → IsUtf8 (indent t m)
  sound_utf8 _ sound.null m a = subst IsUtf8 (sym (indented-Null m)) (utf8_ascii (codes "null") (omega arith, (omega arith, (omega arith, (omega arith, tt)))))
  sound_utf8 _ (sound.boolean b) m a = subst IsUtf8 (sym (indented-Bool b m)) (word_utf8 b)
  sound_utf8 _ (sound.number s is) m a = subst IsUtf8 (sym (indented-Num s m)) (number_utf8 s is)
  sound_utf8 _ (sound.text s u) m a = subst IsUtf8 (sym (indented-Str s m)) (quoted_utf8 s u)
  sound_utf8 _ (sound.array xs all) m a = array_utf8 xs m a (items_utf8 xs all (further m) (further_ascii m a))
  sound_utf8 _ (sound.object ps all) m a = object_utf8 ps m a (pairs_utf8 ps all (further m) (further_ascii m a))

  items_utf8 : (xs : List Json) → AllSound xs → (m : List ℕ) → Ascii m → AllByRecursion (λ x. IsUtf8 (on_line m (indent x m))) xs
  items_utf8 _ sound.none m a = tt
  items_utf8 _ (sound.more x xs is all) m a = (line_utf8 m (indent x m) a (sound_utf8 x is m a), items_utf8 xs all m a)

  pairs_utf8 : (ps : List (List ℕ × Json)) → PairsSound ps → (m : List ℕ) → Ascii m → AllByRecursion (λ p. IsUtf8 (Line m p)) ps
  pairs_utf8 _ sound.no_pairs m a = tt
  pairs_utf8 _ (sound.pair key value ps u is all) m a = (
    line_utf8 m (member (key, indent value m)) a (IsUtf8-append (quote key) (58 ∷ 32 ∷ indent value m) (quoted_utf8 key u) (IsUtf8-append (58 ∷ 32 ∷ []) (indent value m) (utf8_ascii (58 ∷ 32 ∷ []) (omega arith, (omega arith, tt))) (sound_utf8 value is m a))),
    pairs_utf8 ps all m a,
  )
