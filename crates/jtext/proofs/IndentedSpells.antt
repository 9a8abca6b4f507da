-- The indented text of a tree spells the tree with its pairs sorted.
use Rattle.std.proofs.Common.{ℕ, ◌<◌, true, false, List, [], ◌∷◌, ◌++◌, map, length, inl, inr, refl, sym, ap, ◌∙◌, subst, append_assoc, arith}
use Rattle.std.proofs.lemmas.List.{append-nil}
use Rattle.std.proofs.lemmas.Str.{IsUtf8-append}
use Rattle.std.specs.List.{AllByRecursion}
use Rattle.std.specs.Prelude.{codes}
use Rattle.std.specs.Str.{IsUtf8}
use Rattle.jtext.specs.declared.json.Json.{Json}
use Rattle.jtext.specs.declared.json.Json.TheVariants as json
use Rattle.jtext.specs.Grammar as grammar
use Rattle.jtext.specs.Grammar.{Spells, Spelled, Items, last_item, next_item, Pairs, last_pair, next_pair, Pair, IsSpace, AreSpaces, Distinct}
use Rattle.jtext.specs.Keyed.{Keyed}
use Rattle.jtext.specs.Print.{quote}
use Rattle.jtext.specs.Sorting.{byte_order, by_key, sort_tree}
use Rattle.jtext.specs.Sound.{Sound}
use Rattle.jtext.specs.Indent.{on_line, further, member, indent, indent_items, indent_fields, print}
use Rattle.jtext.proofs.Fronts.{all-append}
use Rattle.jtext.proofs.Indented.{indented-Null, indented-Bool, indented-Num, indented-Str, array_text, object_text, length-sort_by, indented-none, indented-empty}
use Rattle.jtext.proofs.Printed.{quoted_spelled}
use Rattle.jtext.proofs.Propers as proper
use Rattle.jtext.proofs.Propers.{Proper, AllProper, PairsProper, proper_of}
use Rattle.jtext.proofs.Sorts.{all-sort_by}
use Rattle.jtext.proofs.SortedTrees.{with_sorted, sorted-Null, sorted-Bool, sorted-Num, sorted-Str, sorted-Arr, sorted_pairs-Obj, distinct-map, distinct-by_key}
use Rattle.jtext.proofs.Utf8s.{Ascii, utf8_ascii, ascii-append, word_utf8, number_utf8, quoted_utf8, joined_utf8}

-- ---- lines

a_space : IsSpace 32
a_space = inl refl

a_line_end : IsSpace 10
a_line_end = inr (inr (inl refl))

further_spaces : (m : List ℕ) → AreSpaces m → AreSpaces (further m)
further_spaces m all = all-append IsSpace m (32 ∷ []) all (a_space, tt)

line_spaces : (m : List ℕ) → AreSpaces m → AreSpaces (on_line m [])
line_spaces m all = (a_line_end, all-append IsSpace m [] all tt)

module _ (m : List ℕ) (spaces : AreSpaces m) (w : List ℕ) (behind : AreSpaces w) where
  abbrev ItemsLine : List Json → Type 0
  ItemsLine [] = Unit {0}
  ItemsLine (x ∷ xs) = Items (map sort_tree (x ∷ xs)) (indent_items m (x ∷ xs) ++ w)

  items_lines : (xs : List Json) → AllByRecursion (λ x. Spelled (sort_tree x) (indent x m)) xs → ItemsLine xs
  items_lines [] all = tt
  items_lines (x ∷ []) all = last_item (sort_tree x) (10 ∷ m) (indent x m) w _ (a_line_end, spaces) all.0 behind (simp (append-nil, append_assoc))
  items_lines (x ∷ y ∷ ys) all =
      next_item (sort_tree x) (map sort_tree (y ∷ ys)) (10 ∷ m) (indent x m) [] (indent_items m (y ∷ ys) ++ w) _ (a_line_end, spaces) all.0 tt (items_lines (y ∷ ys) all.1) (simp append_assoc)

  abbrev PairsLine : List (List ℕ × Json) → Type 0
  PairsLine [] = Unit {0}
  PairsLine (p ∷ ps) = Pairs (map with_sorted (p ∷ ps)) (indent_fields m (p ∷ ps) ++ w)

  named_spell : (p : List ℕ × Json) → Spelled (sort_tree p.1) (indent p.1 m) → Pair (with_sorted p) (member (p.0, indent p.1 m))
  named_spell p is = grammar.pair p.0 (sort_tree p.1) (quote p.0) [] (32 ∷ []) (indent p.1 m) (member (p.0, indent p.1 m)) (quoted_spelled p.0) tt (a_space, tt) is refl

  pairs_lines : (ps : List (List ℕ × Json)) → AllByRecursion (λ p. Spelled (sort_tree p.1) (indent p.1 m)) ps → PairsLine ps
  pairs_lines [] all = tt
  pairs_lines (p ∷ []) all = last_pair (with_sorted p) (10 ∷ m) (member (p.0, indent p.1 m)) w _ (a_line_end, spaces) (named_spell p all.0) behind (simp (append-nil, append_assoc))
  pairs_lines (p ∷ q ∷ qs) all =
      next_pair (with_sorted p) (map with_sorted (q ∷ qs)) (10 ∷ m) (member (p.0, indent p.1 m)) [] (indent_fields m (q ∷ qs) ++ w) _ (a_line_end, spaces) (named_spell p all.0) tt (pairs_lines (q ∷ qs) all.1) (simp append_assoc)

-- ---- trees

array_spell : (xs : List Json) (m : List ℕ) → AreSpaces m → AllByRecursion (λ x. Spelled (sort_tree x) (indent x (further m))) xs → Spelled (sort_tree (json.Arr xs)) (indent (json.Arr xs) m)
array_spell [] m spaces all = subst (λ t. Spelled t (indent (json.Arr []) m)) (sym (sorted-Arr [])) (grammar.no_items [] (indent (json.Arr []) m) tt (indented-none m))
array_spell (x ∷ xs) m spaces all =
    subst (λ t. Spelled t (indent (json.Arr (x ∷ xs)) m)) (sym (sorted-Arr (x ∷ xs)))
    (grammar.array (map sort_tree (x ∷ xs)) (indent_items (further m) (x ∷ xs) ++ on_line m []) (indent (json.Arr (x ∷ xs)) m) (items_lines (further m) (further_spaces m spaces) (on_line m []) (line_spaces m spaces) (x ∷ xs) all)
    (array_text (x ∷ xs) m (omega arith) ∙ ap (λ l. 91 ∷ l) (simp append_assoc)))

pairs_inside : (qs : List (List ℕ × Json)) (m : List ℕ) → AreSpaces m → 0 < length qs → AllByRecursion (λ p. Spelled (sort_tree p.1) (indent p.1 (further m))) qs → Pairs (map with_sorted qs) (indent_fields (further m) qs ++ on_line m [])
pairs_inside [] m spaces some all = absurd (omega arith)
pairs_inside (q ∷ qs) m spaces some all = pairs_lines (further m) (further_spaces m spaces) (on_line m []) (line_spaces m spaces) (q ∷ qs) all

object_spell : (ps : List (List ℕ × Json)) (m : List ℕ) → AreSpaces m → Distinct ps → AllByRecursion (λ p. Spelled (sort_tree p.1) (indent p.1 (further m))) ps → Spelled (sort_tree (json.Obj ps)) (indent (json.Obj ps) m)
object_spell [] m spaces d all = subst (λ t. Spelled t (indent (json.Obj []) m)) (sym (sorted_pairs-Obj [])) (grammar.no_pairs [] (indent (json.Obj []) m) tt (indented-empty m))
object_spell (p ∷ ps) m spaces d all =
    let qs = by_key (p ∷ ps) in
    let some : 0 < length qs = omega (arith, length-sort_by (λ a b. byte_order a.0 b.0) (p ∷ ps)) in
    subst (λ t. Spelled t (indent (json.Obj (p ∷ ps)) m)) (sym (sorted_pairs-Obj (p ∷ ps)))
    (grammar.object (map with_sorted qs) (indent_fields (further m) qs ++ on_line m []) (indent (json.Obj (p ∷ ps)) m)
    (pairs_inside qs m spaces some (all-sort_by (λ a b. byte_order a.0 b.0) (λ p. Spelled (sort_tree p.1) (indent p.1 (further m))) (p ∷ ps) all)) (distinct-map qs (distinct-by_key (p ∷ ps) d))
    (object_text (p ∷ ps) m (omega arith) ∙ ap (λ l. 123 ∷ l) (simp append_assoc)))

mutual
  spell : (t : Json) → Proper t → (m : List ℕ) → AreSpaces m → Spelled (sort_tree t) (indent t m)
  spell _ proper.null m spaces = subst (λ t. Spelled t (indent json.Null m)) (sym sorted-Null) (grammar.null (indent json.Null m) (indented-Null m))
  spell _ (proper.boolean true) m spaces = subst (λ t. Spelled t (indent (json.Bool true) m)) (sym (sorted-Bool true)) (grammar.yes (indent (json.Bool true) m) (indented-Bool true m))
  spell _ (proper.boolean false) m spaces = subst (λ t. Spelled t (indent (json.Bool false) m)) (sym (sorted-Bool false)) (grammar.no (indent (json.Bool false) m) (indented-Bool false m))
  spell _ (proper.number s is) m spaces = subst (λ t. Spelled t (indent (json.Num s) m)) (sym (sorted-Num s)) (subst (Spelled (json.Num s)) (sym (indented-Num s m)) (grammar.number s is))
  spell _ (proper.text s u) m spaces = subst (λ t. Spelled t (indent (json.Str s) m)) (sym (sorted-Str s)) (subst (Spelled (json.Str s)) (sym (indented-Str s m)) (grammar.string s (quote s) (quoted_spelled s)))
  spell _ (proper.array xs all) m spaces = array_spell xs m spaces (items_spell xs all (further m) (further_spaces m spaces))
  spell _ (proper.object ps all d) m spaces = object_spell ps m spaces d (pairs_spell ps all (further m) (further_spaces m spaces))

  items_spell : (xs : List Json) → AllProper xs → (m : List ℕ) → AreSpaces m → AllByRecursion (λ x. Spelled (sort_tree x) (indent x m)) xs
  items_spell _ proper.none m spaces = tt
  items_spell _ (proper.more x xs is all) m spaces = (spell x is m spaces, items_spell xs all m spaces)

  pairs_spell : (ps : List (List ℕ × Json)) → PairsProper ps → (m : List ℕ) → AreSpaces m → AllByRecursion (λ p. Spelled (sort_tree p.1) (indent p.1 m)) ps
  pairs_spell _ proper.no_pairs m spaces = tt
  pairs_spell _ (proper.pair key value ps u is all) m spaces = (spell value is m spaces, pairs_spell ps all m spaces)

-- ---- UTF-8

pub further_ascii : (m : List ℕ) → Ascii m → Ascii (further m)
further_ascii m a = ascii-append m (32 ∷ []) a (omega arith, tt)

pub line_utf8 : (m b : List ℕ) → Ascii m → IsUtf8 b → IsUtf8 (on_line m b)
line_utf8 m b a u = IsUtf8-append (10 ∷ m) b (utf8_ascii (10 ∷ m) (omega arith, a)) u

abbrev Named : List ℕ → List ℕ × Json → Type 0
Named m p = IsUtf8 (on_line m (member (p.0, indent p.1 m)))

pub lines_utf8 : {A : Type 0} (f : A → List ℕ) (xs : List A) → AllByRecursion (λ x. IsUtf8 (f x)) xs → AllByRecursion IsUtf8 (map f xs)
lines_utf8 f [] all = tt
lines_utf8 f (x ∷ xs) all = (all.0, lines_utf8 f xs all.1)

array_utf8 : (xs : List Json) (m : List ℕ) → Ascii m → AllByRecursion (λ x. IsUtf8 (on_line (further m) (indent x (further m)))) xs → IsUtf8 (indent (json.Arr xs) m)
array_utf8 [] m a all = subst IsUtf8 (sym (indented-none m)) (utf8_ascii (91 ∷ 93 ∷ []) (omega arith, (omega arith, tt)))
array_utf8 (x ∷ xs) m a all =
    subst IsUtf8 (sym (array_text (x ∷ xs) m (omega arith)))
    (IsUtf8-append (91 ∷ []) (indent_items (further m) (x ∷ xs) ++ on_line m (93 ∷ [])) (utf8_ascii (91 ∷ []) (omega arith, tt))
    (IsUtf8-append (indent_items (further m) (x ∷ xs)) (on_line m (93 ∷ [])) (joined_utf8 (map (λ y. on_line (further m) (indent y (further m))) (x ∷ xs)) (lines_utf8 (λ y. on_line (further m) (indent y (further m))) (x ∷ xs) all))
    (line_utf8 m (93 ∷ []) a (utf8_ascii (93 ∷ []) (omega arith, tt)))))

object_utf8 : (ps : List (List ℕ × Json)) (m : List ℕ) → Ascii m → AllByRecursion (Named (further m)) ps → IsUtf8 (indent (json.Obj ps) m)
object_utf8 [] m a all = subst IsUtf8 (sym (indented-empty m)) (utf8_ascii (123 ∷ 125 ∷ []) (omega arith, (omega arith, tt)))
object_utf8 (p ∷ ps) m a all =
    let qs = by_key (p ∷ ps) in
    let F = λ (q : List ℕ × Json). on_line (further m) (member (q.0, indent q.1 (further m))) in
    subst IsUtf8 (sym (object_text (p ∷ ps) m (omega arith)))
    (IsUtf8-append (123 ∷ []) (indent_fields (further m) qs ++ on_line m (125 ∷ [])) (utf8_ascii (123 ∷ []) (omega arith, tt))
    (IsUtf8-append (indent_fields (further m) qs) (on_line m (125 ∷ [])) (joined_utf8 (map F qs) (lines_utf8 F qs (all-sort_by (λ x y. byte_order x.0 y.0) (Named (further m)) (p ∷ ps) all)))
    (line_utf8 m (125 ∷ []) a (utf8_ascii (125 ∷ []) (omega arith, tt)))))

mutual
  tree_utf8 : (t : Json) → Proper t → (m : List ℕ) → Ascii m → IsUtf8 (indent t m)
  tree_utf8 _ proper.null m a = subst IsUtf8 (sym (indented-Null m)) (utf8_ascii (codes "null") (omega arith, (omega arith, (omega arith, (omega arith, tt)))))
  tree_utf8 _ (proper.boolean b) m a = subst IsUtf8 (sym (indented-Bool b m)) (word_utf8 b)
  tree_utf8 _ (proper.number s is) m a = subst IsUtf8 (sym (indented-Num s m)) (number_utf8 s is)
  tree_utf8 _ (proper.text s u) m a = subst IsUtf8 (sym (indented-Str s m)) (quoted_utf8 s u)
  tree_utf8 _ (proper.array xs all) m a = array_utf8 xs m a (items_utf8 xs all (further m) (further_ascii m a))
  tree_utf8 _ (proper.object ps all d) m a = object_utf8 ps m a (pairs_utf8 ps all (further m) (further_ascii m a))

  items_utf8 : (xs : List Json) → AllProper xs → (m : List ℕ) → Ascii m → AllByRecursion (λ x. IsUtf8 (on_line m (indent x m))) xs
  items_utf8 _ proper.none m a = tt
  items_utf8 _ (proper.more x xs is all) m a = (line_utf8 m (indent x m) a (tree_utf8 x is m a), items_utf8 xs all m a)

  pairs_utf8 : (ps : List (List ℕ × Json)) → PairsProper ps → (m : List ℕ) → Ascii m → AllByRecursion (Named m) ps
  pairs_utf8 _ proper.no_pairs m a = tt
  pairs_utf8 _ (proper.pair key value ps u is all) m a = (
    line_utf8 m (member (key, indent value m)) a (IsUtf8-append (quote key) (58 ∷ 32 ∷ indent value m) (quoted_utf8 key u) (IsUtf8-append (58 ∷ 32 ∷ []) (indent value m) (utf8_ascii (58 ∷ 32 ∷ []) (omega arith, (omega arith, tt))) (tree_utf8 value is m a))),
    pairs_utf8 ps all m a,
  )

pub indented_text : (t : Json) → Sound t → Keyed t → Spells (sort_tree t) (print t)
indented_text t s k =
    let is = proper_of t s k in
    record {
      before = [];
      value = indent t [];
      after = 10 ∷ [];
      is_before = tt;
      is_value = spell t is [] tt;
      is_after = (a_line_end, tt);
      utf8 = IsUtf8-append (indent t []) (10 ∷ []) (tree_utf8 t is [] tt) (utf8_ascii (10 ∷ []) (omega arith, tt));
      text = refl;
    }
